use Rattle.std.proofs.Common.{ap}
use Rattle.bh_audit.specs.Books.{BookView}
use Rattle.bh_sharing.proofs.Stepping.{of_same}
use Rattle.bh_sharing.proofs.locked.Locked.into_book.Goals as goal

pub returns-clause-of : goal.returns-clause-of
returns-clause-of g c =
    of_same g.S.Service.facts c.self.inside.lender.recorded.groups c.into_book.result.groups c.self.invariant (ap (λ (b : BookView). b.groups) c.into_book.ensures)
