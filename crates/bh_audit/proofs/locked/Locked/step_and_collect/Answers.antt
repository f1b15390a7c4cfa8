use Rattle.std.proofs.Common.{◌∙◌, sym}
use Rattle.bh_audit.specs.Turns.{held}
use Rattle.bh_audit.proofs.Turns.{both_made}
use Rattle.bh_audit.proofs.locked.Locked.step_and_collect.Goals as goal

pub returns : goal.returns
returns g c =
    let old = c.args.self.now in
    let between = c.step-freed.new in
    both_made _ _ c.args.step.now c.args.serial between.reply c.try_collect.new.reply (held old.book old.stopped c.args.pass.now) (held between.self.book between.self.stopped between.pass)
    (held c.try_collect.new.self.book c.try_collect.new.self.stopped c.try_collect.new.pass) c.in-Some.answer.said c.step-freed.result c.in-Some.answer.freed c.and.result
    c.step-freed.ensures (sym c.is_refused.ensures ∙ c.if-is_refused.false) c.in-Some.ensures.does c.and.ensures.these c.and.ensures.others
