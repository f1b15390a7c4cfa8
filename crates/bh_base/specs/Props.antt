-- The properties of a group and of its commands, as contracts see them.
use Rattle.std.specs.Prelude.{ℕ, false, List, Option}
use Rattle.bh_base.specs.declared.props.CommandProps.{CommandProps}
use Rattle.bh_base.specs.declared.props.Strategy.TheVariants as strategy

-- what the commands of a group share, and the properties of each command by its number
pub record GroupProps : Type 0 where
  pub slots : ℕ
  pub core : ℕ
  pub max_queue : Option ℕ
  pub queue_threshold : ℕ
  pub commands : List CommandProps

-- what stands for the properties of a command that the group lacks: no ticket is ever of one
abbrev pub no_props : CommandProps
no_props = record {
  strategy = strategy.Thread;
  timeout_ms = 0;
  timeout_on = false;
  semaphore = 0;
  fallback_permits = 0;
  fallback_on = false;
  circuit_on = false;
  volume = 0;
  sleep_ms = 0;
  percent = 0;
  force_open = false;
  force_closed = false;
  window_ms = 0;
  buckets = 0;
  health_ms = 0;
  cache_on = false;
}
