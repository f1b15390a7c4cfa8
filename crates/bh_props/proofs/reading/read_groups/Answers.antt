use Rattle.std.proofs.Common.{◌≡◌, ◌∙◌, ℕ, List, [], Vec, Global, All, IfSome, Ok, ap, sym, subst}
use Rattle.std.specs.Result.{result_and}
use Rattle.toml.specs.Data.{Data}
use Rattle.toml.specs.View.{view}
use Rattle.bh_base.specs.Commands.{each_from}
use Rattle.bh_base.specs.Ranges.{IsInRange}
use Rattle.bh_props.specs.declared.value.Fault.TheVariants.{WrongType, OutOfRange}
use Rattle.bh_props.specs.declared.property.Property.TheVariants as properties
use Rattle.bh_props.specs.Commands.{Commands}
use Rattle.bh_props.specs.ByGroup.{AreByGroup}
use Rattle.bh_props.specs.InForce.{in_force}
use Rattle.bh_props.specs.Refusals.{checked_values, checked_windows}
use Rattle.bh_props.specs.Settings.{IsAuditLimit, IsFurther, optional_number, group_in_force}
use Rattle.bh_props.specs.Subjects.{subjects}
use Rattle.bh_props.proofs.Checks.{first-passes, second-passes}
use Rattle.bh_props.proofs.InRange.{groups-in_range, audit-in_range}
use Rattle.bh_props.proofs.Known.{commands_of-numbered, further-known}
use Rattle.bh_props.proofs.reading.read_groups.Goals as goal

pub invariant_of-result : goal.invariant_of-result
invariant_of-result c =
    let d : Data = view c.args.root.now in
    let cs : Commands = c.in_ok-commands.commands.entries in
    let same : view c.of-sections.result.root.now ≡ d = ap view c.of-sections.ensures.root in
    let numbered = commands_of-numbered c.args.names.now.texts.keys d cs c.in_ok-commands.ensures.ok in
    let by_groups : (lists : List (Vec (List ℕ × (ℕ × ℕ)) Global)) → lists ≡ c.in_ok-further.further.items → AreByGroup cs lists =
    λ lists is. subst (AreByGroup cs) (sym is) c.in_ok-further.ensures.further in
    let made : c.in_ok-subjects.subjects.items ≡ subjects c.args.names.now.texts.keys cs =
    c.in_ok-subjects.ensures cs (by_groups _ c.deref.ensures.value) ∙ ap (λ names. subjects names cs) c.as_slice.ensures.keys in
    let groups : c.in_ok-groups_in_force.field-0.entries ≡ each_from 0 (group_in_force d cs) c.args.names.now.texts.keys =
    c.in_ok-groups_in_force.ensures cs (by_groups _ c.deref-4.ensures.value) ∙ ap (λ x. each_from 0 (group_in_force x cs) c.as_slice-2.result.now) same ∙ ap (each_from 0 (group_in_force d cs)) c.as_slice-2.ensures.keys in
    let some = subjects c.args.names.now.texts.keys cs in
    let passed : Ok tt ≡ result_and (checked_values WrongType d some) (checked_values OutOfRange d some) =
    c.in_ok-check_types_and_ranges.ensures
    ∙ (λ i. result_and (checked_values WrongType (same i) (c.deref-2.ensures.value i)) (checked_values OutOfRange (same i) (c.deref-2.ensures.value i)))
    ∙ ap (λ xs. result_and (checked_values WrongType d xs) (checked_values OutOfRange d xs)) made in
    let types : checked_values WrongType d some ≡ Ok tt = first-passes (checked_values WrongType d some) (checked_values OutOfRange d some) passed in
    let ranges : checked_values OutOfRange d some ≡ Ok tt = second-passes (checked_values WrongType d some) (checked_values OutOfRange d some) passed in
    let windows : checked_windows d (subjects c.args.names.now.texts.keys cs) ≡ Ok tt =
    ap (checked_windows d) (sym (c.deref-3.ensures.value ∙ made)) ∙ ap (λ x. checked_windows x c.deref-3.result.now) (sym same) ∙ sym c.in_ok-check_windows.ensures in
    record {
      in_range = subst (All (λ group. IsInRange group.1)) (sym groups) (groups-in_range d c.args.names.now.texts.keys cs numbered.few types ranges windows);
      audit = subst (λ steps. IfSome steps IsAuditLimit) (sym (c.audit_steps_in_force.ensures ∙ ap (λ x. optional_number (in_force properties.AuditSteps [] x)) same)) (audit-in_range d);
      known_commands = subst (λ groups. All (λ command. IsFurther groups command.1) cs) (sym groups) (further-known d c.args.names.now.texts.keys cs numbered);
    }
