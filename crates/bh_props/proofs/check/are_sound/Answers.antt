use Rattle.std.proofs.Common.{◌∙◌, ap, sym, refl, None}
use Rattle.std.specs.List.{find}
use Rattle.toml.specs.View.{view}
use Rattle.bh_props.specs.Refusals.{is_at_fault}
use Rattle.bh_props.specs.Subjects.{properties_of}
use Rattle.bh_props.proofs.Checks.{checked_values-passed}
use Rattle.bh_props.proofs.check.are_sound.Goals as goal

pub loop-subject-preserved : goal.loop-subject-preserved
loop-subject-preserved c = λ fault.
    let finds = sym (c.is_sound.ensures c.if-not-is_sound.false fault)
    ∙ ap (λ name. find (is_at_fault fault name (view c.args.sections.now.root.now)) (properties_of c.subject-item.result.scope)) c.as_str.ensures.text in
    sym (checked_values-passed fault (view c.args.sections.now.root.now) _ _ _ None c.loop-subject-test.true c.subject-item.is finds refl)
    ∙ c.loop-subject.invariant fault
