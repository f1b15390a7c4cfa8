-- The rows that are told of: all that groups of a name came to, by the names of their commands.
use Rattle.std.specs.Prelude.{◌≡◌, ℕ, ◌+◌, Bool, ◌&&◌, ◌==◌, List, [], ◌∷◌, map, Option, Some, None, option_map, unwrap_or, if◌then◌else◌}
use Rattle.std.specs.HashMap.{HashMap, get}
use Rattle.std.specs.Str.{bytes_eq}
use Rattle.bh_lines.specs.Names.{command_name}
use Rattle.bh_port.specs.Course.{names_in}
use Rattle.bh_port.specs.declared.groups.Entry.{Entry}
use Rattle.bh_props.specs.SettingsView.{SettingsView}
use Rattle.bh_look.specs.declared.rows.Row.{Row}
use Rattle.bh_look.specs.declared.tally.Tally.{Tally}
use Rattle.bh_look.specs.Tallies.{added, no_tally}
use Rattle.bh_look.specs.Watched.{Lanes}

-- what a row says beside its times
pub record RowSaid : Type 0 where
  pub group : List ℕ
  pub command : List ℕ
  pub tally : Tally

-- what is said of it
abbrev pub row_said : Row → RowSaid
row_said row = record { group = row.group; command = row.command; tally = row.tally }

-- whether the row has these names
abbrev pub is_row_of : List ℕ → List ℕ → RowSaid → Bool
is_row_of group command row = bytes_eq group row.group && bytes_eq command row.command

-- a row with what came to it in addition
abbrev pub with_tally : Tally → RowSaid → RowSaid
with_tally tally row = record row { tally = added row.tally tally }

-- a row of the names to which nothing came yet
abbrev pub new_row : List ℕ → List ℕ → RowSaid
new_row group command = record { group = group; command = command; tally = no_tally }

-- with what came to a command of the names: in addition in the row of the names, where there is one, else in a new one behind
-- the others
abbrev pub with_row : List ℕ → List ℕ → Tally → List RowSaid → List RowSaid
with_row group command tally [] = with_tally tally (new_row group command) ∷ []
with_row group command tally (row ∷ rows) =
    if is_row_of group command row then with_tally tally row ∷ rows else row ∷ with_row group command tally rows

-- the name of the group's command of the number: the group's own for its own one, or where the settings have none
abbrev pub name_in_row : SettingsView → Entry → ℕ → List ℕ
name_in_row service entry number = unwrap_or (command_name (names_in service) entry.like number) entry.name

-- the tallies that are kept: of each group those of its commands
abbrev pub tallies_in : Lanes → List (List Tally)
tallies_in lanes = map (λ own. map (λ lane. lane.tally) own.items) lanes

-- with what came to the commands of a group, of which the first has this number
abbrev pub with_tallies : SettingsView → Entry → ℕ → List Tally → List RowSaid → List RowSaid
with_tallies service entry number [] rows = rows
with_tallies service entry number (tally ∷ tallies) rows =
    with_tallies service entry (number + 1) tallies (with_row entry.name (name_in_row service entry number) tally rows)

-- with what came to the commands of the groups
abbrev pub with_groups : SettingsView → List Entry → List (List Tally) → List RowSaid → List RowSaid
with_groups service [] tallies rows = rows
with_groups service (entry ∷ entries) [] rows = rows
with_groups service (entry ∷ entries) (own ∷ tallies) rows = with_groups service entries tallies (with_tallies service entry 0 own rows)

-- the rows of groups with these tallies, in the order of their numbers
abbrev pub rows_of : SettingsView → List Entry → List (List Tally) → List RowSaid
rows_of service entries tallies = with_groups service entries tallies []

-- the place of the first row of these names, where there is one
abbrev pub place_of : List ℕ → List ℕ → List RowSaid → Option ℕ
place_of group command [] = None
place_of group command (row ∷ rows) = if is_row_of group command row then Some 0 else option_map (λ place. place + 1) (place_of group command rows)

-- whether both names are the same, as the keys of a map are
abbrev pub same_names : List ℕ × List ℕ → List ℕ × List ℕ → Bool
same_names a b = bytes_eq a.0 b.0 && bytes_eq a.1 b.1

-- the map has the place of the row of each two names that have one
pub record ArePlaces {S : Type 0} (rows : List RowSaid) (places : HashMap (List ℕ × List ℕ) ℕ S) : Type 0 where
  pub each : (group command : List ℕ) → get same_names places (group, command) ≡ place_of group command rows

-- whether both numbers are the same, as the keys of a map are
abbrev pub same_numbers : ℕ × ℕ → ℕ × ℕ → Bool
same_numbers a b = (a.0 == b.0) && (a.1 == b.1)

-- the name that the map has for the command of the number in a group like that at the place; none for the group's own
abbrev pub name_kept : {S : Type 0} → HashMap (ℕ × ℕ) (List ℕ) S → ℕ → ℕ → Option (List ℕ)
name_kept names like number = if number == 0 then None else get same_numbers names (like, number)

-- the map has the names of the further commands of the settings
pub record AreNamesIn {S : Type 0} (service : SettingsView) (names : HashMap (ℕ × ℕ) (List ℕ) S) : Type 0 where
  pub each : (like number : ℕ) → name_kept names like number ≡ command_name (names_in service) like number
