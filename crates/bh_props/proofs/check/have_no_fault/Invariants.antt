use Rattle.std.proofs.Common.{◌≡◌, drop}
use Rattle.std.specs.List.{find}
use Rattle.toml.specs.View.{view}
use Rattle.bh_props.specs.declared.value.Fault.{Fault}
use Rattle.bh_props.specs.Refusals.{is_at_fault}
use Rattle.bh_props.proofs.check.have_no_fault.Given as goal

abbrev pub invariant-loop-property : goal.invariant-loop-property
invariant-loop-property l =
    (fault : Fault)
    → find (is_at_fault fault l.given.name.now (view l.given.sections.root.now)) (drop l.property-index l.properties)
    ≡ find (is_at_fault fault l.given.name.now (view l.given.sections.root.now)) l.properties
