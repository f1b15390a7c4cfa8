use Rattle.std.proofs.Common.{◌≡◌, ◌++◌, Ok, Err, ◌∙◌, ap, sym, subst}
use Rattle.bh_props.specs.Shown.{settings_view}
use Rattle.bh_port.specs.Course.{line_act}
use Rattle.bh_port.specs.Script.{GroupsShow}
use Rattle.bh_port.specs.Text.{answer_to, course_with}
use Rattle.bh_port.proofs.Outcomes.{on_ok, both_ok}
use Rattle.bh_port.proofs.run.Run.answer_said.Goals as goal

pub returns-in-Ok-clause-answers : goal.returns-in-Ok-clause-answers
returns-in-Ok-clause-answers c = both_ok c.answer_act.result c.answer_act.ensures.wrote c.answer_act.ensures.agrees (λ wrote did before bytes agrees tells.
    let service = settings_view c.args.settings.now in
    let is : line_act service before.entries bytes ≡ Ok c.args.self.now.act =
    sym (ap (λ es. line_act service es bytes) agrees.entries) ∙ (rw c.in-Ok.is at tells) in record {
      wrote = wrote before agrees ∙ ap (λ said. c.args.self.now.out.items ++ answer_to service before said) (sym is);
      agrees = subst (λ said. GroupsShow service c.answer_act.new.self.groups (course_with service before said)) (sym is) (did before agrees);
    })

pub returns-in-Err-clause-answers : goal.returns-in-Err-clause-answers
returns-in-Err-clause-answers c = on_ok c.answer_fault.result c.answer_fault.ensures.wrote (λ wrote before bytes agrees tells.
    let service = settings_view c.args.settings.now in
    let is : line_act service before.entries bytes ≡ Err c.in-Err.fault =
    sym (ap (λ es. line_act service es bytes) agrees.entries) ∙ (rw c.in-Err.is at tells) in record {
      wrote = wrote ∙ ap (λ said. c.args.self.now.out.items ++ answer_to service before said) (sym is);
      agrees = subst (λ said. GroupsShow service c.answer_fault.new.self.groups (course_with service before said)) (sym is)
          (subst (λ g. GroupsShow service g before) (sym c.answer_fault.ensures.same) agrees);
    })
