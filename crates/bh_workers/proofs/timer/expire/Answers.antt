use Rattle.bh_workers.proofs.Expiring.{looked}
use Rattle.bh_workers.proofs.timer.expire.Goals as goal

pub returns : goal.returns
returns g c =
    let adds = c.expire_due.ensures.adds in
    let err = c.expire_due.ensures.err in
    looked g.C.Clock.moments c.args.shared.now.audited c.args.pass.now c.expire_due.new.pass c.expire_due.result (λ number is. rw is at adds) (λ e is. rw is at err)
