use Rattle.std.proofs.Common.{◌++◌, ◌∙◌, ap, sym}
use Rattle.bh_replies.specs.ReplyLine.{reply_line}
use Rattle.bh_replies.specs.ToldLine.{told_line}
use Rattle.bh_props.specs.Shown.{settings_view}
use Rattle.bh_port.specs.Text.{told_by}
use Rattle.bh_port.proofs.Outcomes.{on_ok}
use Rattle.bh_port.proofs.run.Run.answer_step.Goals as goal

pub returns-clause-wrote : goal.returns-clause-wrote
unfolding reply_line told_line
returns-clause-wrote c = on_ok c.put_step_reply.result c.put_step_reply.ensures.ok (λ wrote before agrees.
    let told = c.make_step-command.ensures.told before agrees ∙ ap (told_by (settings_view c.args.settings.now) before) (sym c.in-Step.is) in
    wrote ∙ ap (λ said. c.args.self.now.out.items ++ told_line said) told)
