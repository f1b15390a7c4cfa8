-- The rows of a summary: what all lines of a script came to.
use Rattle.std.specs.Prelude.{ℕ, List, [], Option, Some, None, slice_get}
use Rattle.bh_base.specs.Commands.{each_command, each_from}
use Rattle.bh_base.specs.Props.{GroupProps}
use Rattle.bh_lines.specs.Lines.{Cut}
use Rattle.bh_port.specs.Course.{new_course}
use Rattle.bh_port.specs.declared.groups.Entry.{Entry}
use Rattle.bh_props.specs.SettingsView.{SettingsView}
use Rattle.bh_look.specs.declared.tally.Tally.{Tally}
use Rattle.bh_look.specs.Rows.{RowSaid, rows_of}
use Rattle.bh_look.specs.Scripts.{course_after, tally_of}
use Rattle.bh_look.specs.Tallies.{no_tally}

-- the tallies of the commands of a group that is like this one of the settings, by their numbers
abbrev pub each_tally : (ℕ → Tally) → Option (List ℕ × GroupProps) → List Tally
each_tally tally None = []
each_tally tally (Some like) = each_command (λ number props. tally number) like.1.commands

-- the tally of a group's command with what all lines did
abbrev pub script_tally : SettingsView → Cut → ℕ → ℕ → Tally
script_tally service c group command = tally_of service (new_course service) c group command no_tally

-- those of the groups that there were at the end of a script, each with what all lines did
abbrev pub script_tallies : SettingsView → Cut → List Entry → List (List Tally)
script_tallies service c entries = each_from 0 (λ group entry. each_tally (script_tally service c group) (slice_get service.groups entry.like)) entries

-- the groups that there were at the end of a script, retired ones among them
abbrev pub script_entries : SettingsView → Cut → List Entry
script_entries service c = (course_after service (new_course service) c).entries

-- the rows of all commands at the end of a script
unfoldable pub summary_rows : SettingsView → Cut → List RowSaid
summary_rows service c = rows_of service (script_entries service c) (script_tallies service c (script_entries service c))
