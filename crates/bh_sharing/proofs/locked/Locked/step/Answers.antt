use Rattle.bh_sharing.proofs.Stepping.{of_done}
use Rattle.bh_sharing.proofs.locked.Locked.step.Goals as goal

pub invariant_of-self : goal.invariant_of-self
invariant_of-self g c =
    of_done g.S.Service.facts (record { group = c.args.group; now = c.moment-now.result; op = c.args.op.now }) c.make_step.new.reply
    c.self-2.inside.lender c.args.leases.now c.make_step.new.lender c.make_step.new.leases c.self-2.invariant c.make_step.ensures.done
