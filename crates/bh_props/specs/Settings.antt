-- The settings of a text: what each group's properties are, or the first refusal.
use Rattle.std.specs.Prelude.{ℕ, ◌<◌, ◌≤◌, List, [], ◌∷◌, map, length, slice_index, Bool, false, Option, Some, None, Result, Ok, Err}
use Rattle.std.specs.Result.{result_and}
use Rattle.toml.specs.Data.{Data, table, Members}
use Rattle.toml.specs.Parse.{parse_document}
use Rattle.bh_base.specs.declared.props.Strategy.{Strategy}
use Rattle.bh_base.specs.declared.props.Strategy.TheVariants as strategies
use Rattle.bh_base.specs.declared.props.CommandProps.{CommandProps}
use Rattle.bh_base.specs.Props.{GroupProps}
use Rattle.bh_base.specs.Commands.{command_count, each_from}
use Rattle.bh_props.specs.declared.property.Property.{Property}
use Rattle.bh_props.specs.declared.property.Property.TheVariants as properties
use Rattle.bh_props.specs.declared.value.PropertyValue.{PropertyValue}
use Rattle.bh_props.specs.declared.value.PropertyValue.TheVariants as values
use Rattle.bh_props.specs.declared.value.Fault.{Fault}
use Rattle.bh_props.specs.declared.value.Fault.TheVariants.{WrongType, OutOfRange}
use Rattle.bh_props.specs.declared.error.SettingsError.{SettingsError}
use Rattle.bh_props.specs.declared.error.SettingsError.TheVariants as refusals
use Rattle.bh_props.specs.SettingsView.{SettingsView}
use Rattle.bh_props.specs.InForce.{in_force}
use Rattle.bh_props.specs.Names.{names_of}
use Rattle.bh_props.specs.declared.subject.Subject.{Subject}
use Rattle.bh_props.specs.Commands.{Commands, commands_in, commands_of}
use Rattle.bh_props.specs.Subjects.{subjects}
use Rattle.bh_props.specs.Refusals.{number, checked_service, checked_values, checked_windows}

-- a limit of audited steps
abbrev pub IsAuditLimit : ℕ → Type 0
IsAuditLimit steps = (1 ≤ steps) × (steps ≤ 1000000)

-- a group's place and number of one of its further commands, where the groups have so many commands
abbrev pub IsFurther : List (List ℕ × GroupProps) → ℕ × ℕ → Type 0
IsFurther groups c = (c.0 < length groups) × (1 ≤ c.1) × (c.1 < slice_index (map (λ g. command_count g.1) groups) c.0)

-- a truth value in force; there is one wherever the property is one of truth values and has no fault
abbrev pub truth : Result PropertyValue Fault → Bool
truth (Ok (values.Truth b)) = b
truth _ = false

-- the strategy in force
abbrev pub strategy : Result PropertyValue Fault → Strategy
strategy (Ok (values.Strategy s)) = s
strategy _ = strategies.Thread

-- a number in force, where there is one
abbrev pub optional_number : Result PropertyValue Fault → Option ℕ
optional_number (Ok (values.Number n)) = Some n
optional_number _ = None

-- the fields of a command, each of the value in force of its property
abbrev pub command_of : (Property → Result PropertyValue Fault) → CommandProps
command_of value = record {
  strategy = strategy (value properties.Strategy);
  timeout_ms = number (value properties.Timeout);
  timeout_on = truth (value properties.TimeoutOn);
  semaphore = number (value properties.Semaphore);
  fallback_permits = number (value properties.FallbackPermits);
  fallback_on = truth (value properties.FallbackOn);
  circuit_on = truth (value properties.CircuitOn);
  volume = number (value properties.Volume);
  sleep_ms = number (value properties.SleepWindow);
  percent = number (value properties.ErrorPercent);
  force_open = truth (value properties.ForceOpen);
  force_closed = truth (value properties.ForceClosed);
  window_ms = number (value properties.Window);
  buckets = number (value properties.Buckets);
  health_ms = number (value properties.HealthInterval);
  cache_on = truth (value properties.CacheOn);
}

-- the fields of a group with these commands
abbrev pub props_of : List CommandProps → (Property → Result PropertyValue Fault) → GroupProps
props_of commands value = record {
  slots = number (value properties.Slots);
  core = number (value properties.CoreSize);
  max_queue = optional_number (value properties.MaxQueue);
  queue_threshold = number (value properties.QueueThreshold);
  commands = commands;
}

-- the properties in force of a command of the name
unfoldable pub command_in_force : Data → List ℕ → CommandProps
command_in_force d name = command_of (λ p. in_force p name d)

-- those of the commands of the group of the name at the place, by their numbers: its own, then its further ones
abbrev pub commands_in_force : Data → Commands → ℕ → List ℕ → List CommandProps
commands_in_force d commands place name = command_in_force d name ∷ map (λ c. command_in_force d c.0) (commands_in place commands)

-- the properties in force of the group of the name at the place
abbrev pub props_in_force : Data → Commands → ℕ → List ℕ → GroupProps
props_in_force d commands place name = props_of (commands_in_force d commands place name) (λ p. in_force p name d)

-- a group and its properties in force
abbrev pub group_in_force : Data → Commands → ℕ → List ℕ → List ℕ × GroupProps
group_in_force d commands place name = (name, props_in_force d commands place name)

-- the settings of a file that nothing refuses
abbrev pub settings_in_force : Data → List (List ℕ) → Commands → SettingsView
settings_in_force d names commands = record {
  groups = each_from 0 (group_in_force d commands) names;
  audit_steps = optional_number (in_force properties.AuditSteps [] d);
  commands = commands;
}

-- the settings of groups and commands that are known: each check is made for the whole file before the next
abbrev pub settings_of_subjects : Data → List (List ℕ) → Commands → List Subject → Result SettingsView SettingsError
settings_of_subjects d names commands some =
    result_and (checked_values WrongType d some)
    (result_and (checked_values OutOfRange d some)
    (result_and (checked_windows d some)
    (Ok (settings_in_force d names commands))))

-- the settings of known groups, unless the further commands are refused
abbrev pub settings_of_commands : Data → List (List ℕ) → Result Commands SettingsError → Result SettingsView SettingsError
settings_of_commands d names (Ok commands) = settings_of_subjects d names commands (subjects names commands)
settings_of_commands d names (Err refusal) = Err refusal

-- the settings of groups that are known
abbrev pub settings_of_groups : Data → List (List ℕ) → Result SettingsView SettingsError
settings_of_groups d names = result_and (checked_service names d) (settings_of_commands d names (commands_of names d))

-- the settings, unless the names are refused
abbrev pub settings_of_named : Data → Result (List (List ℕ)) SettingsError → Result SettingsView SettingsError
settings_of_named d (Ok names) = settings_of_groups d names
settings_of_named d (Err refusal) = Err refusal

-- the settings of a document's members; none where the text is no document
abbrev pub settings_of_tree : Option Members → Result SettingsView SettingsError
settings_of_tree None = Err refusals.Syntax
settings_of_tree (Some ms) = settings_of_named (table ms) (names_of (table ms))

-- the settings of a text, or the first refusal
abbrev pub settings_of : List ℕ → Result SettingsView SettingsError
settings_of text = settings_of_tree (parse_document text)
