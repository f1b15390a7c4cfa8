use Rattle.std.proofs.Common.{◌≡◌, ◌<◌, ◌≤◌, ℕ, Some}
use Rattle.std.specs.Prelude.{slice_get}
use Rattle.bh_base.specs.Runs.{View}
use Rattle.bh_core.specs.CoreView.{view_at}
use Rattle.bh_columns.specs.Panels.{FitsLanes, HasLooked}
use Rattle.bh_columns.specs.declared.lane.KeptLane.{KeptLane}
use Rattle.bh_columns.proofs.lane.look_all.Given as goal

abbrev pub invariant-loop-command : goal.invariant-loop-command
invariant-loop-command l = record {
  done : (v : View) → view_at l.core l.group.0 ≡ Some v → FitsLanes v l.initial.lanes → (k : ℕ) (lane : KeptLane) → k < l.command → slice_get l.initial.lanes k ≡ Some lane → (x : KeptLane) × (slice_get l.lanes k ≡ Some x) × HasLooked v k l.touched lane x;
  rest : (k : ℕ) → l.command ≤ k → slice_get l.lanes k ≡ slice_get l.initial.lanes k;
}
