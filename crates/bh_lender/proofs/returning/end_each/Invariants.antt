use Rattle.std.proofs.Common.{◌≡◌, List, filter, map, take}
use Rattle.bh_lease.specs.Lease.{has}
use Rattle.bh_lender.specs.Lender.{end_step}
use Rattle.bh_lender.specs.Steps.{AreSteps, Made, steps_of}
use Rattle.bh_lender.proofs.returning.end_each.Given as goal

abbrev pub invariant-loop-lease : goal.invariant-loop-lease
invariant-loop-lease l = (made : List Made) × AreSteps l.initial.core made l.core × (steps_of made ≡ map (end_step l.now l.part) (filter (has l.part) (take l.lease-index l.leases)))
