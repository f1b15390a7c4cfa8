use Rattle.std.proofs.Common.{◌≡◌, ◌<◌, ◌≤◌, ℕ, Some}
use Rattle.std.specs.Prelude.{slice_get}
use Rattle.bh_base.specs.Runs.{View}
use Rattle.bh_core.specs.CoreView.{view_at}
use Rattle.bh_look.specs.declared.lane.Lane.{Lane}
use Rattle.bh_look.specs.Looked.{Fits, HasAdded}
use Rattle.bh_look.proofs.making.add_looks.Given as goal

abbrev pub invariant-loop-command : goal.invariant-loop-command
invariant-loop-command l = record {
  done : (v : View) → view_at l.core l.group.0 ≡ Some v → Fits v l.initial.lanes → (k : ℕ) (lane : Lane) → k < l.command → slice_get l.initial.lanes k ≡ Some lane
      → (x : Lane) × (slice_get l.lanes k ≡ Some x) × HasAdded v k l.now l.asks l.passed lane x;
  rest : (k : ℕ) → l.command ≤ k → slice_get l.lanes k ≡ slice_get l.initial.lanes k;
}
