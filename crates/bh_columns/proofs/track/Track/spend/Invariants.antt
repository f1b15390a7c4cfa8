use Rattle.std.proofs.Common.{◌≡◌, ◌<◌, ◌≤◌, ℕ}
use Rattle.bh_columns.specs.Panels.{KeepsRoom}
use Rattle.bh_columns.specs.Tracks.{HasRoom, IsReach, column_at, with_stay_in}
use Rattle.bh_columns.proofs.track.Track.spend.Given as goal

abbrev pub invariant-loop-index : goal.invariant-loop-index
invariant-loop-index l = record {
  done : IsReach l.reach l.stay.since l.stay.until → HasRoom l.fn.self l.reach.first l.reach.end → (i : ℕ) → i < l.index → column_at l.self i ≡ with_stay_in l.reach.width i l.stay (column_at l.fn.self i);
  rest : (i : ℕ) → IsReach l.reach l.stay.since l.stay.until → HasRoom l.fn.self l.reach.first l.reach.end → l.index ≤ i → column_at l.self i ≡ column_at l.fn.self i;
  room : KeepsRoom l.fn.self l.self;
}
