use Rattle.std.proofs.Common.{ap}
use Rattle.bh_lender.specs.Lender.{LenderView}
use Rattle.bh_sharing.proofs.Stepping.{of_returned, of_same}
use Rattle.bh_sharing.proofs.locked.Locked.give_back.Goals as goal

pub invariant_of-self : goal.invariant_of-self
invariant_of-self g c =
    of_returned g.S.Service.facts c.moment-now.result c.args.leases.now c.self.inside.lender c.give_back.new.self c.self.invariant c.in-Ok.ensures.given

pub invariant_of-self-in-Err : goal.invariant_of-self-in-Err
invariant_of-self-in-Err g c =
    of_same g.S.Service.facts c.self.inside.lender.recorded.groups c.give_back.new.self.recorded.groups c.self.invariant (ap (λ (l : LenderView). l.recorded.groups) c.in-Err.ensures.err.0)
