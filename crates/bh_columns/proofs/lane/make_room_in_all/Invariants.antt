use Rattle.std.proofs.Common.{◌≡◌, ◌<◌, ◌≤◌, ℕ, Some}
use Rattle.std.specs.Prelude.{slice_get}
use Rattle.bh_columns.specs.Panels.{HasMadeRoom}
use Rattle.bh_columns.specs.declared.lane.KeptLane.{KeptLane}
use Rattle.bh_columns.proofs.lane.make_room_in_all.Given as goal

abbrev pub invariant-loop-place : goal.invariant-loop-place
invariant-loop-place l = record {
  done : (k : ℕ) (lane : KeptLane) → k < l.place → slice_get l.initial.lanes k ≡ Some lane → (x : KeptLane) × (slice_get l.lanes k ≡ Some x) × HasMadeRoom l.from l.to lane x;
  rest : (k : ℕ) → l.place ≤ k → slice_get l.lanes k ≡ slice_get l.initial.lanes k;
}
