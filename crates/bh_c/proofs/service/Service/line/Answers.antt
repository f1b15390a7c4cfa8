use Rattle.std.proofs.Common.{ap, Some, sym, ◌∙◌}
use Rattle.bh_port.specs.Course.{line_act}
use Rattle.bh_props.specs.Shown.{settings_view}
use Rattle.bh_c.proofs.Texts.{line_text-same}
use Rattle.bh_c.proofs.Answered.{line-act, line-fault}
use Rattle.bh_c.proofs.service.Service.line.Goals as goal

pub returns-in-Ok-said-clause-told : goal.returns-in-Ok-said-clause-told
returns-in-Ok-said-clause-told c =
    let service = settings_view c.args.self.now.settings in
    let same = line_text-same c.args.line.now c.in-Some.text.now c.in-Some.ensures in
    line-act service c.args.line.now c.args.self.now.groups c.line_of_act.new.self.groups c.args.buffer.now c.line_of_act.new.buffer c.line_of_act.new.needed (sym c.in-Some.ensures ∙ ap Some same)
    c.line_act.new.act c.line_of_act.result (ap (line_act service c.args.self.now.groups.entries) (sym same) ∙ (rw c.in-Ok-said.is at c.in-Ok.ensures.said)) c.line_of_act.ensures.told

pub returns-in-Err-clause-told : goal.returns-in-Err-clause-told
returns-in-Err-clause-told c =
    let service = settings_view c.args.self.now.settings in
    let same = line_text-same c.args.line.now c.in-Some.text.now c.in-Some.ensures in
    line-fault service c.args.line.now c.args.self.now.groups c.line_of_fault.new.self.groups c.args.buffer.now c.line_of_fault.new.buffer c.line_of_fault.new.needed (sym c.in-Some.ensures ∙ ap Some same)
    c.in-Err.fault c.line_of_fault.result (ap (line_act service c.args.self.now.groups.entries) (sym same) ∙ (rw c.in-Err.is at c.in-Ok.ensures.said)) c.line_of_fault.ensures.groups c.line_of_fault.ensures.told
