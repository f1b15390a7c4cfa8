use Rattle.std.proofs.Common.{◌≡◌, drop}
use Rattle.bh_columns.specs.Panels.{any_pooled}
use Rattle.bh_columns.proofs.lane.any_pooled.Given as goal

abbrev pub invariant-loop-lane : goal.invariant-loop-lane
invariant-loop-lane l = any_pooled (drop l.lane-index l.lanes) ≡ any_pooled l.lanes
