use Rattle.std.proofs.Common.{refl}
use Rattle.bh_base.specs.declared.reply.Reply.TheVariants as replies
use Rattle.bh_lender.proofs.Settled.{does_no_more}
use Rattle.bh_lender.proofs.settling.collect.Goals as goal

pub returns-in-RunFallback : goal.returns-in-RunFallback
returns-in-RunFallback c = (
  _,
  (_, rw c.in-RunFallback.is at c.apply_to.ensures, (_, c.apply_to-in-RunFallback.ensures, (_, c.apply_to-in-RunFallback-2.ensures, refl))),
  (replies.RunFallback c.in-RunFallback.field-0, _, refl, (c.apply_to-in-RunFallback.new.reply, c.apply_to-in-RunFallback-2.new.reply, refl)),
)

pub returns-in_default : goal.returns-in_default
returns-in_default c =
    let reply = c.apply_to.new.reply in
    (_, (_, c.apply_to.ensures, refl), (reply, _, refl, does_no_more c.args.now c.args.holder.now reply c.in_default.not-RunFallback))
