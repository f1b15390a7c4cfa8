-- What may be changed of the properties while a group runs, and what is left as it was.
use Rattle.std.specs.Prelude.{◌≡◌, ℕ, Bool, true, ◌&&◌, nat_le, length, map, set}
use Rattle.bh_base.specs.declared.props.CommandProps.{CommandProps}
use Rattle.bh_base.specs.declared.props.Tuning.{Tuning}
use Rattle.bh_base.specs.declared.props.Tuning.TheVariants as tuning
use Rattle.bh_base.specs.Props.{GroupProps}
use Rattle.bh_base.specs.Commands.{props_of}
use Rattle.bh_base.specs.History.{window_of}

-- a number of 32 bits
abbrev pub is_whole : ℕ → Bool
is_whole n = nat_le n 4_294_967_295

-- whether the value is within the range of its property
abbrev pub is_within : Tuning → Bool
is_within (tuning.Timeout n) = is_whole n
is_within (tuning.Semaphore n) = is_whole n
is_within (tuning.FallbackPermits n) = is_whole n
is_within (tuning.Volume n) = is_whole n
is_within (tuning.SleepWindow n) = is_whole n
is_within (tuning.ErrorPercent n) = is_whole n
is_within (tuning.HealthInterval n) = is_whole n
is_within (tuning.QueueThreshold n) = is_whole n
is_within (tuning.CoreSize n) = nat_le 1 n && nat_le n 64
is_within _ = true

-- the properties of a command with the value; one of the thread pool is none of theirs
abbrev pub command_tuned : Tuning → CommandProps → CommandProps
command_tuned (tuning.Timeout n) c = record c { timeout_ms = n }
command_tuned (tuning.TimeoutOn b) c = record c { timeout_on = b }
command_tuned (tuning.Semaphore n) c = record c { semaphore = n }
command_tuned (tuning.FallbackPermits n) c = record c { fallback_permits = n }
command_tuned (tuning.FallbackOn b) c = record c { fallback_on = b }
command_tuned (tuning.CircuitOn b) c = record c { circuit_on = b }
command_tuned (tuning.Volume n) c = record c { volume = n }
command_tuned (tuning.SleepWindow n) c = record c { sleep_ms = n }
command_tuned (tuning.ErrorPercent n) c = record c { percent = n }
command_tuned (tuning.ForceOpen b) c = record c { force_open = b }
command_tuned (tuning.ForceClosed b) c = record c { force_closed = b }
command_tuned (tuning.HealthInterval n) c = record c { health_ms = n }
command_tuned (tuning.CacheOn b) c = record c { cache_on = b }
command_tuned (tuning.CoreSize n) c = c
command_tuned (tuning.QueueThreshold n) c = c

-- the properties of a group with the value, in its thread pool or in the command of the number
abbrev pub group_tuned : Tuning → ℕ → GroupProps → GroupProps
group_tuned (tuning.CoreSize n) command p = record p { core = n }
group_tuned (tuning.QueueThreshold n) command p = record p { queue_threshold = n }
group_tuned t command p = record p { commands = set p.commands command (command_tuned t (props_of command p)) }

-- what no step changes of the properties: all that tickets, counts and their storage rest on
pub record AreOfOneShape (old new : GroupProps) : Type 0 where
  pub slots : new.slots ≡ old.slots
  pub max_queue : new.max_queue ≡ old.max_queue
  pub count : length new.commands ≡ length old.commands
  pub windows : map window_of new.commands ≡ map window_of old.commands
  pub strategies : map (λ (c : CommandProps). c.strategy) new.commands ≡ map (λ (c : CommandProps). c.strategy) old.commands
