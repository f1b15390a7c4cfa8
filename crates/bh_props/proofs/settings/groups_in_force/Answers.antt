use Rattle.std.proofs.Common.{◌≡◌, ◌∙◌, ◌∷◌, ap, List, ℕ, length, map}
use Rattle.toml.specs.Data.{Data}
use Rattle.toml.specs.View.{view}
use Rattle.bh_base.specs.Props.{GroupProps}
use Rattle.bh_base.specs.declared.props.CommandProps.{CommandProps}
use Rattle.bh_props.specs.Commands.{Commands}
use Rattle.bh_props.specs.InForce.{in_force}
use Rattle.bh_props.specs.Settings.{command_in_force, props_in_force, props_of, commands_in_force}
use Rattle.bh_props.proofs.ByGroup.{list-at}
use Rattle.bh_props.proofs.Groups.{insert_entry-next}
use Rattle.bh_props.proofs.settings.groups_in_force.Goals as goal

props-made : (d : Data) (cs : Commands) (place : ℕ) (name s t : List ℕ) (own : List CommandProps) (made : GroupProps) → s ≡ name → t ≡ name → own ≡ commands_in_force d cs place s
    → made ≡ props_of own (λ p. in_force p t d) → made ≡ props_in_force d cs place name
props-made d cs place name s t own made same_s same_t are is =
    is ∙ ap (λ n. props_of own (λ p. in_force p n d)) same_t
    ∙ ap (λ some. props_of some (λ p. in_force p name d)) (are ∙ ap (commands_in_force d cs place) same_s)

pub loop-place-preserved : goal.loop-place-preserved
loop-place-preserved c = λ commands by_group.
    let d : Data = view c.args.sections.now.root.now in
    let further = list-at commands c.args.further.now (length c.args.names.now) c.loop-place.place _ c.deref.result.now
    by_group c.requires.groups c.loop-place-test.true c.index-further-place.is c.deref.ensures.value in
    insert_entry-next (props_in_force d commands) _ _ _ _ _ _ c.requires.distinct c.loop-place-test.true c.index-names-place.is
    (c.loop-place.invariant commands by_group)
    (props-made d commands c.loop-place.place _ _ _ _ _ c.as_str.ensures.text c.as_str-in-loop-place.ensures.text
    (c.in_ok-own.ensures ∙ ap (λ (some : Commands). command_in_force d c.as_str.result.now ∷ map (λ x. command_in_force d x.0) some) further)
    c.props_in_force.ensures)
    c.in_ok-insert.ensures.entries
