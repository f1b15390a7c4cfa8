use Rattle.std.proofs.Common.{◌≡◌, List, map, take}
use Rattle.bh_lender.specs.Lender.{close_step}
use Rattle.bh_lender.specs.Steps.{AreSteps, Made, steps_of}
use Rattle.bh_lender.proofs.returning.close_each.Given as goal

abbrev pub invariant-loop-within : goal.invariant-loop-within
invariant-loop-within l = (made : List Made) × AreSteps l.initial.core made l.core × (steps_of made ≡ map (close_step l.now) (take l.within-index l.contexts))
