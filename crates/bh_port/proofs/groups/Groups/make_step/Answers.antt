use Rattle.std.proofs.Common.{◌∙◌, ap}
use Rattle.bh_replies.specs.declared.told.Told.TheVariants as told
use Rattle.bh_props.specs.Shown.{settings_view}
use Rattle.bh_port.specs.Text.{told_name, told_reply}
use Rattle.bh_port.proofs.Showing.{agrees-step, reply-step}
use Rattle.bh_port.proofs.groups.Groups.make_step.Goals as goal

pub returns-clause-told : goal.returns-clause-told
returns-clause-told c = λ before agrees.
    let service = settings_view c.args.settings.now in
    let step = c.args.step.now in
    let n = step.group.0 in
    let r = c.apply_to.new.reply in
    ap (told.Reply r) (c.assigned_command.ensures ∙ ap (λ es. told_name service es n r) c.apply_to.ensures.entries)
    ∙ ap (λ es. told_reply service es n r) agrees.entries
    ∙ ap (told_reply service before.entries n) (reply-step service c.args.self.now c.apply_to.new.self before step r agrees c.apply_to.ensures.step)

pub returns-clause-agrees : goal.returns-clause-agrees
returns-clause-agrees c = λ before agrees.
    agrees-step (settings_view c.args.settings.now) c.args.self.now c.apply_to.new.self before c.args.step.now c.apply_to.new.reply agrees c.apply_to.ensures.step c.apply_to.ensures.entries c.requires.act
