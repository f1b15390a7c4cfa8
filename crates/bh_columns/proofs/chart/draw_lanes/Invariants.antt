use Rattle.std.proofs.Common.{◌≡◌, ℕ, Some, length}
use Rattle.std.specs.Prelude.{slice_get}
use Rattle.bh_columns.specs.Charts.{IsLaneOf}
use Rattle.bh_columns.specs.declared.chart.Lane.{Lane}
use Rattle.bh_columns.specs.declared.lane.KeptLane.{KeptLane}
use Rattle.bh_columns.proofs.chart.draw_lanes.Given as goal

abbrev pub invariant-loop-number : goal.invariant-loop-number
invariant-loop-number l = record {
  count : length l.lanes.items ≡ l.number;
  each : (k : ℕ) (lane : Lane) → slice_get l.lanes.items k ≡ Some lane → (own : KeptLane) → slice_get l.kept k ≡ Some own → IsLaneOf l.drawn.many l.drawn.first l.drawn.end own lane;
}
