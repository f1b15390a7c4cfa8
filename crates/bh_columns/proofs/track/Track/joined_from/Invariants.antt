use Rattle.std.proofs.Common.{◌≡◌}
use Rattle.bh_columns.specs.Tracks.{column_at, joined_run}
use Rattle.bh_columns.proofs.track.Track.joined_from.Given as goal

abbrev pub invariant-loop-step : goal.invariant-loop-step
invariant-loop-step l = l.joined ≡ joined_run (column_at l.self) l.from l.step
