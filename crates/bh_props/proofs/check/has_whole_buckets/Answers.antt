use Rattle.std.proofs.Common.{◌≡◌, ◌∙◌, ap, rules}
use Rattle.toml.specs.View.{view}
use Rattle.bh_props.specs.declared.property.Property.{Property}
use Rattle.bh_props.specs.declared.property.Property.TheVariants as properties
use Rattle.bh_props.specs.InForce.{in_force}
use Rattle.bh_props.specs.Refusals.{number}
use Rattle.bh_props.proofs.check.has_whole_buckets.Goals as goal

pub returns : goal.returns
returns c =
    let same : (p : Property) → in_force p c.named-given.result.name.now (view c.named-given.result.sections.root.now) ≡ in_force p c.args.name.now (view c.args.sections.now.root.now) =
    λ p i. in_force p (c.named-given.ensures.name i) (view (c.named-given.ensures.root i)) in
    let window : c.number-window.result ≡ number (in_force properties.Window c.args.name.now (view c.args.sections.now.root.now)) = c.number-window.ensures ∙ ap number (same properties.Window) in
    let buckets : c.number-buckets.result ≡ number (in_force properties.Buckets c.args.name.now (view c.args.sections.now.root.now)) = c.number-buckets.ensures ∙ ap number (same properties.Buckets) in
    rw (← window, ← buckets) (search rules)
