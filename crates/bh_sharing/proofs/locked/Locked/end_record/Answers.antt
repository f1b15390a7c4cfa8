use Rattle.std.proofs.Common.{ap}
use Rattle.bh_lender.specs.Lender.{LenderView}
use Rattle.bh_sharing.proofs.Stepping.{of_same}
use Rattle.bh_sharing.proofs.locked.Locked.end_record.Goals as goal

pub invariant_of-self : goal.invariant_of-self
invariant_of-self g c =
    of_same g.S.Service.facts c.self.inside.lender.recorded.groups c.end_log.new.self.recorded.groups c.self.invariant (ap (λ (l : LenderView). l.recorded.groups) c.end_log.ensures)
