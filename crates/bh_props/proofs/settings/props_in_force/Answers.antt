use Rattle.std.proofs.Common.{◌≡◌, ◌∙◌, ap}
use Rattle.toml.specs.View.{view}
use Rattle.bh_props.specs.declared.property.Property.{Property}
use Rattle.bh_props.specs.declared.property.Property.TheVariants as properties
use Rattle.bh_props.specs.InForce.{in_force}
use Rattle.bh_props.specs.Refusals.{number}
use Rattle.bh_props.specs.Settings.{optional_number}
use Rattle.bh_props.proofs.settings.props_in_force.Goals as goal

pub returns : goal.returns
returns c =
    let same : (p : Property) → in_force p c.named-given.result.name.now (view c.named-given.result.sections.root.now) ≡ in_force p c.args.group.now (view c.args.sections.now.root.now) =
    λ p i. in_force p (c.named-given.ensures.name i) (view (c.named-given.ensures.root i)) in
    λ i. record {
      slots = (c.number.ensures ∙ ap number (same properties.Slots)) i;
      core = (c.number-2.ensures ∙ ap number (same properties.CoreSize)) i;
      max_queue = (c.optional_number.ensures ∙ ap optional_number (same properties.MaxQueue)) i;
      queue_threshold = (c.number-3.ensures ∙ ap number (same properties.QueueThreshold)) i;
      commands = c.args.commands.items;
    }
