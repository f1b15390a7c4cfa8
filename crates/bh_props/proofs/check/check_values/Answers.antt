use Rattle.std.proofs.Common.{◌∙◌, sym, ap, Err}
use Rattle.std.specs.List.{find}
use Rattle.toml.specs.View.{view}
use Rattle.bh_props.specs.Refusals.{is_at_fault}
use Rattle.bh_props.specs.Subjects.{properties_of}
use Rattle.bh_props.proofs.Checks.{checked_values-refused, checked_values-passed}
use Rattle.bh_props.proofs.check.check_values.Goals as goal

pub returns-in-Some : goal.returns-in-Some
returns-in-Some c =
    let finds = c.first_at_fault.ensures
    ∙ ap (λ name. find (is_at_fault c.args.fault name (view c.args.sections.now.root.now)) (properties_of c.subject-item.result.scope)) c.as_str.ensures.text in
    ap Err c.refusal.ensures
    ∙ sym (checked_values-refused c.args.fault (view c.args.sections.now.root.now) _ _ _ _ _ c.loop-subject-test.true c.subject-item.is finds c.in-Some.is)
    ∙ c.loop-subject.invariant

pub loop-subject-preserved : goal.loop-subject-preserved
loop-subject-preserved c =
    let finds = c.first_at_fault.ensures
    ∙ ap (λ name. find (is_at_fault c.args.fault name (view c.args.sections.now.root.now)) (properties_of c.subject-item.result.scope)) c.as_str.ensures.text in
    sym (checked_values-passed c.args.fault (view c.args.sections.now.root.now) _ _ _ _ c.loop-subject-test.true c.subject-item.is finds c.in_default.is) ∙ c.loop-subject.invariant
