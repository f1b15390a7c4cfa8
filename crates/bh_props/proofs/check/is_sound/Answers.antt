use Rattle.std.proofs.Common.{◌∙◌, ap, sym}
use Rattle.std.specs.List.{find}
use Rattle.toml.specs.View.{view}
use Rattle.bh_props.specs.Refusals.{is_at_fault}
use Rattle.bh_props.specs.Subjects.{properties_of}
use Rattle.bh_props.proofs.check.is_sound.Goals as goal

pub returns : goal.returns
returns c = λ sound fault.
    sym (ap (find (is_at_fault fault c.named-given.result.name.now (view c.named-given.result.sections.root.now))) c.properties.ensures
    ∙ (λ i. find (is_at_fault fault (c.named-given.ensures.name i) (view (c.named-given.ensures.root i))) (properties_of c.args.scope)))
    ∙ c.have_no_fault.ensures sound fault
