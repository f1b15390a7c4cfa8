use Rattle.std.proofs.Common.{length, ◌-◌}
use Rattle.bh_workers.specs.Timing.{AreTimed}
use Rattle.bh_workers.proofs.timer.expire_all.Given as goal

abbrev pub invariant-loop-place : goal.invariant-loop-place
invariant-loop-place g l = AreTimed g.C.Clock.moments l.shared.audited l.fn.passes l.passes

abbrev pub decreases-loop-place : goal.decreases-loop-place
decreases-loop-place g l = length l.initial.passes - l.place
