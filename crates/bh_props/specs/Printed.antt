-- The lines that show what is in force.
use Rattle.std.specs.Prelude.{ℕ, List, ◌++◌, codes, Option, Some, None, if◌then◌else◌}
use Rattle.std.specs.List.{flat_map}
use Rattle.std.specs.Fmt.{decimal}
use Rattle.bh_base.specs.declared.props.Strategy.TheVariants as strategies
use Rattle.bh_base.specs.declared.props.CommandProps.{CommandProps}
use Rattle.bh_base.specs.Props.{GroupProps}
use Rattle.bh_base.specs.Commands.{props_of, each_from}
use Rattle.bh_props.specs.declared.property.Property.{Property}
use Rattle.bh_props.specs.declared.property.Property.TheVariants as properties
use Rattle.bh_props.specs.declared.value.PropertyValue.{PropertyValue}
use Rattle.bh_props.specs.declared.value.PropertyValue.TheVariants as values
use Rattle.bh_props.specs.Table.{row}
use Rattle.bh_props.specs.declared.subject.Scope.{Scope}
use Rattle.bh_props.specs.declared.subject.Scope.TheVariants as scopes
use Rattle.bh_props.specs.Commands.{Commands, commands_in}
use Rattle.bh_props.specs.Subjects.{properties_of}
use Rattle.bh_props.specs.SettingsView.{SettingsView}

-- the word of a value
abbrev pub word_of : PropertyValue → List ℕ
word_of (values.Number n) = decimal n
word_of (values.Truth b) = if b then codes "true" else codes "false"
word_of (values.Strategy strategies.Thread) = codes "THREAD"
word_of (values.Strategy strategies.Semaphore) = codes "SEMAPHORE"
word_of values.NoQueue = codes "-1"
word_of values.Absent = codes "none"

-- a number that may be absent, or no queue
abbrev pub number_or : PropertyValue → Option ℕ → PropertyValue
number_or none None = none
number_or none (Some n) = values.Number n

-- the value of a property of a group and one of its commands
abbrev pub value_of : Option ℕ → GroupProps → CommandProps → Property → PropertyValue
value_of audit_steps g c properties.AuditSteps = number_or values.Absent audit_steps
value_of audit_steps g c properties.Slots = values.Number g.slots
value_of audit_steps g c properties.Strategy = values.Strategy c.strategy
value_of audit_steps g c properties.Timeout = values.Number c.timeout_ms
value_of audit_steps g c properties.TimeoutOn = values.Truth c.timeout_on
value_of audit_steps g c properties.Semaphore = values.Number c.semaphore
value_of audit_steps g c properties.FallbackPermits = values.Number c.fallback_permits
value_of audit_steps g c properties.FallbackOn = values.Truth c.fallback_on
value_of audit_steps g c properties.CircuitOn = values.Truth c.circuit_on
value_of audit_steps g c properties.Volume = values.Number c.volume
value_of audit_steps g c properties.SleepWindow = values.Number c.sleep_ms
value_of audit_steps g c properties.ErrorPercent = values.Number c.percent
value_of audit_steps g c properties.ForceOpen = values.Truth c.force_open
value_of audit_steps g c properties.ForceClosed = values.Truth c.force_closed
value_of audit_steps g c properties.Window = values.Number c.window_ms
value_of audit_steps g c properties.Buckets = values.Number c.buckets
value_of audit_steps g c properties.HealthInterval = values.Number c.health_ms
value_of audit_steps g c properties.CacheOn = values.Truth c.cache_on
value_of audit_steps g c properties.CoreSize = values.Number g.core
value_of audit_steps g c properties.MaxQueue = number_or values.NoQueue g.max_queue
value_of audit_steps g c properties.QueueThreshold = values.Number g.queue_threshold

-- one line: the name, the property and its value
abbrev pub property_line : List ℕ → (Property → PropertyValue) → Property → List ℕ
property_line name value p = name ++ codes " " ++ (row p).name ++ codes " " ++ word_of (value p) ++ codes "\n"

-- the lines of a subject of the scope: a group, or one of its commands, of the number; in the order of the table
abbrev pub subject_lines : Option ℕ → Scope → List ℕ → GroupProps → ℕ → List ℕ
subject_lines audit_steps scope name g number =
    flat_map (property_line name (value_of audit_steps g (props_of number g))) (properties_of scope)

-- the lines of a group's further commands, in the order of their names
abbrev pub further_lines : Option ℕ → GroupProps → Commands → List ℕ
further_lines audit_steps g commands = flat_map (λ c. subject_lines audit_steps scopes.Command c.0 g c.1.1) commands

-- the lines of the group at the place, then those of its further commands
abbrev pub group_lines : SettingsView → ℕ → List ℕ × GroupProps → List ℕ
group_lines s place group =
    subject_lines s.audit_steps scopes.Group group.0 group.1 0 ++ further_lines s.audit_steps group.1 (commands_in place s.commands)

-- the lines of all groups, in their order
abbrev pub lines_of : SettingsView → List ℕ
lines_of s = flat_map (λ lines. lines) (each_from 0 (group_lines s) s.groups)
