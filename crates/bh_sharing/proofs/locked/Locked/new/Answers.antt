use Rattle.std.proofs.Common.{ap}
use Rattle.bh_lender.specs.Lender.{LenderView}
use Rattle.bh_sharing.proofs.Stepping.{of_opened, of_same}
use Rattle.bh_sharing.proofs.locked.Locked.new.Goals as goal

pub invariant_of-result : goal.invariant_of-result
invariant_of-result g c =
    of_same g.S.Service.facts c.opening.inside.book.groups c.new-2.result.recorded.groups
    (of_opened g.S.Service.facts c.opening.inside.book.groups c.opening.invariant) (ap (λ (l : LenderView). l.recorded.groups) c.new-2.ensures)
