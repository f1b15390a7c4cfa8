use Rattle.std.proofs.Common.{ap, sym}
use Rattle.bh_sharing.specs.Locked.{LockedView}
use Rattle.bh_sharing.proofs.Stepping.{of_same}
use Rattle.bh_sharing.proofs.locked.Locked.are_of_service.Goals as goal

pub returns : goal.returns
returns g c =
    of_same g.S.Service.facts c.self.inside.lender.recorded.groups c.args.self.now.lender.recorded.groups c.self.invariant
    (ap (λ (l : LockedView). l.lender.recorded.groups) (sym c.self.view_is))
