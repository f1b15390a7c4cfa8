-- The group of a name, and the command of one.
use Rattle.std.specs.Prelude.{ℕ, List, Option, Some, None, Result, Ok, Err, if◌then◌else◌}
use Rattle.std.specs.Str.{is_utf8}
use Rattle.bh_props.specs.SettingsView.{SettingsView}
use Rattle.bh_port.specs.declared.groups.Entry.{Entry}
use Rattle.bh_port.specs.Course.{command_at}
use Rattle.bh_port.specs.Entries.{number_of}
use Rattle.bh_c.specs.declared.outcome.Outcome.{Outcome}
use Rattle.bh_c.specs.declared.outcome.Outcome.TheVariants.{NoSuchGroup, NotText, NoSuchCommand}

-- the number, or that no group has the name
abbrev pub or_no_group : Option ℕ → Result ℕ Outcome
or_no_group None = Err NoSuchGroup
or_no_group (Some number) = Ok number

-- the number of the group of the name that is there, or why there is none
unfoldable pub group_in : List Entry → List ℕ → Result ℕ Outcome
group_in entries name = if is_utf8 name then or_no_group (number_of entries name) else Err NotText

-- the number, or that no command of the group has the name
abbrev pub or_no_command : Option ℕ → Result ℕ Outcome
or_no_command None = Err NoSuchCommand
or_no_command (Some number) = Ok number

-- the number of the group's command of the name, or why there is none; a group that is not there has none
unfoldable pub command_in : SettingsView → List Entry → ℕ → List ℕ → Result ℕ Outcome
command_in service entries group name = if is_utf8 name then or_no_command (command_at service entries group name) else Err NotText
