use Rattle.std.proofs.Common.{◌≡◌, drop}
use Rattle.toml.specs.View.{view}
use Rattle.bh_props.specs.declared.value.Fault.{Fault}
use Rattle.bh_props.specs.Refusals.{checked_values}
use Rattle.bh_props.proofs.check.are_sound.Given as goal

abbrev pub invariant-loop-subject : goal.invariant-loop-subject
invariant-loop-subject l =
    (fault : Fault)
    → checked_values fault (view l.sections.root.now) (drop l.subject-index l.subjects) ≡ checked_values fault (view l.sections.root.now) l.subjects
