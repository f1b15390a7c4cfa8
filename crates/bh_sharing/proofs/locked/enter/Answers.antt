use Rattle.std.proofs.Common.{◌≡◌, Ok, Err, refl}
use Rattle.bh_sharing.proofs.Entering.{entry-made, entry-refused}
use Rattle.bh_sharing.proofs.locked.enter.Goals as goal

pub returns-in-Ok : goal.returns-in-Ok
returns-in-Ok c =
    entry-made c.args.group c.args.context c.args.leases.now c.enter.new.self
    (λ why is. let both : Ok tt ≡ Err why = (c.in-Ok.ensures.refused why).1 is in cc) c.in-Ok.ensures.entered

pub returns-in-Err : goal.returns-in-Err
returns-in-Err c =
    entry-refused c.args.group c.args.context c.args.leases.now c.enter.new.self c.in-Err.refusal ((c.in-Err.ensures.refused c.in-Err.refusal).0 refl) c.in-Err.ensures.err
