-- The ranges of the properties of a group and of its commands.
use Rattle.std.specs.Prelude.{◌≡◌, ℕ, ◌*◌, ◌/◌, ◌<◌, ◌≤◌, ◌^◌, length, Option, Some, None}
use Rattle.std.specs.List.{AllByRecursion}
use Rattle.std.specs.Coded.{×_prop, Unit-prop, le_prop}
use Rattle.bh_base.specs.declared.props.CommandProps.{CommandProps}
use Rattle.bh_base.specs.Props.{GroupProps}

-- no queue, or one of 1 to 4,294,967,295
abbrev pub IsQueueLength : Option ℕ → Type 0
IsQueueLength None = Unit {0}
IsQueueLength (Some most) = (1 ≤ most) × (most < 2 ^ 32)

-- it has one proof at most, so that a ghost field may hold it
pub IsQueueLength-prop : (queue : Option ℕ) → IsProp (IsQueueLength queue)
IsQueueLength-prop None = Unit-prop
IsQueueLength-prop (Some most) = ×_prop le_prop le_prop

-- each number of a command is in its range, and the window is so many whole buckets
pub record IsCommandInRange (props : CommandProps) : Type 0 where
  pub timeout : props.timeout_ms < 2 ^ 32
  pub semaphore : props.semaphore < 2 ^ 32
  pub fallback_permits : props.fallback_permits < 2 ^ 32
  pub volume : props.volume < 2 ^ 32
  pub sleep : props.sleep_ms < 2 ^ 32
  pub percent : props.percent < 2 ^ 32
  pub some_window : 1 ≤ props.window_ms
  pub short_window : props.window_ms ≤ 3_600_000
  pub some_buckets : 1 ≤ props.buckets
  pub few_buckets : props.buckets ≤ 60
  pub whole_buckets : props.buckets * (props.window_ms / props.buckets) ≡ props.window_ms
  pub health : props.health_ms < 2 ^ 32

-- the group has 1 to 16 commands, and each number of the group and of its commands is in its range
pub record IsInRange (props : GroupProps) : Type 0 where
  pub some_slots : 1 ≤ props.slots
  pub few_slots : props.slots ≤ 4096
  pub some_core : 1 ≤ props.core
  pub small_core : props.core ≤ 64
  pub queue : IsQueueLength props.max_queue
  pub queue_threshold : props.queue_threshold < 2 ^ 32
  pub some_commands : 1 ≤ length props.commands
  pub few_commands : length props.commands ≤ 16
  pub commands : AllByRecursion IsCommandInRange props.commands
