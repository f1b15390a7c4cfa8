use Rattle.std.proofs.Common.{◌≡◌, ◌∙◌, ap}
use Rattle.toml.specs.View.{view}
use Rattle.bh_props.specs.declared.property.Property.{Property}
use Rattle.bh_props.specs.declared.property.Property.TheVariants as properties
use Rattle.bh_props.specs.InForce.{in_force}
use Rattle.bh_props.specs.Refusals.{number}
use Rattle.bh_props.specs.Settings.{strategy, truth, command_in_force}
use Rattle.bh_props.proofs.settings.command_in_force.Goals as goal

pub returns : goal.returns
unfolding command_in_force
returns c =
    let same : (p : Property) → in_force p c.named-given.result.name.now (view c.named-given.result.sections.root.now) ≡ in_force p c.args.name.now (view c.args.sections.now.root.now) =
    λ p i. in_force p (c.named-given.ensures.name i) (view (c.named-given.ensures.root i)) in
    λ i. record {
      strategy = (c.strategy.ensures ∙ ap strategy (same properties.Strategy)) i;
      timeout_ms = (c.number.ensures ∙ ap number (same properties.Timeout)) i;
      timeout_on = (c.truth.ensures ∙ ap truth (same properties.TimeoutOn)) i;
      semaphore = (c.number-2.ensures ∙ ap number (same properties.Semaphore)) i;
      fallback_permits = (c.number-3.ensures ∙ ap number (same properties.FallbackPermits)) i;
      fallback_on = (c.truth-2.ensures ∙ ap truth (same properties.FallbackOn)) i;
      circuit_on = (c.truth-3.ensures ∙ ap truth (same properties.CircuitOn)) i;
      volume = (c.number-4.ensures ∙ ap number (same properties.Volume)) i;
      sleep_ms = (c.number-5.ensures ∙ ap number (same properties.SleepWindow)) i;
      percent = (c.number-6.ensures ∙ ap number (same properties.ErrorPercent)) i;
      force_open = (c.truth-4.ensures ∙ ap truth (same properties.ForceOpen)) i;
      force_closed = (c.truth-5.ensures ∙ ap truth (same properties.ForceClosed)) i;
      window_ms = (c.number-7.ensures ∙ ap number (same properties.Window)) i;
      buckets = (c.number-8.ensures ∙ ap number (same properties.Buckets)) i;
      health_ms = (c.number-9.ensures ∙ ap number (same properties.HealthInterval)) i;
      cache_on = (c.truth-6.ensures ∙ ap truth (same properties.CacheOn)) i;
    }
