use Rattle.std.proofs.Common.{ap}
use Rattle.bh_base.specs.declared.reply.Reply.TheVariants as replies
use Rattle.bh_base.specs.declared.step.Op.TheVariants as op
use Rattle.bh_lender.specs.Lender.{LenderView}
use Rattle.bh_lender.specs.Steps.{step_at}
use Rattle.bh_sharing.proofs.Stepping.{of_same, of_turn}
use Rattle.bh_sharing.proofs.locked.Locked.expire.Goals as goal

pub invariant_of-self : goal.invariant_of-self
invariant_of-self g c =
    of_turn g.S.Service.facts (step_at c.args.group c.moment-now.result op.Expire) (replies.Expired c.in-Some.field-0) c.self.inside.lender c.expire_due.new.self c.self.invariant c.in-Some.ensures.1

pub invariant_of-self-in-None : goal.invariant_of-self-in-None
invariant_of-self-in-None g c =
    of_same g.S.Service.facts c.self.inside.lender.recorded.groups c.expire_due.new.self.recorded.groups c.self.invariant (ap (λ (l : LenderView). l.recorded.groups) c.in-None.ensures.0)
