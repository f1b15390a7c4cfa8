use Rattle.std.proofs.Common.{◌≡◌, ◌<◌, ℕ, get_or}
use Rattle.bh_look.specs.declared.lane.Lane.{Lane}
use Rattle.bh_look.specs.Tallies.{no_tally}
use Rattle.bh_columns.proofs.panel.clear_all.Given as goal

abbrev pub invariant-loop-place : goal.invariant-loop-place
invariant-loop-place l = (k : ℕ) (d : Lane) → k < l.place → (get_or l.steps k d).tally ≡ no_tally
