-- The further commands that a file names under `service.command`.
use Rattle.std.specs.Prelude.{ℕ, ◌+◌, List, [], ◌∷◌, ◌++◌, length, filter, position, codes, Bool, true, false, not, nat_lt, ◌&&◌, ◌==◌, if◌then◌else◌, Option, Some, None, option_and_then, Result, Ok, Err}
use Rattle.std.specs.BTreeMap.{insert_entry}
use Rattle.std.specs.Cmp.Lexicographic.{slice_cmp}
use Rattle.std.specs.List.{list_any}
use Rattle.std.specs.Ordering.{nat_cmp}
use Rattle.std.specs.Str.{bytes_eq}
use Rattle.toml.specs.Data.{Data, Members, no_members, member, table, get, as_str}
use Rattle.bh_props.specs.declared.error.SettingsError.{SettingsError}
use Rattle.bh_props.specs.declared.error.SettingsError.TheVariants as refusals
use Rattle.bh_props.specs.Tree.{keys_of, look_up}
use Rattle.bh_props.specs.Names.{is_name}

-- each further command's name, with its group's place, from 0, and its number in that group
abbrev pub Commands : Type 0
Commands = List (List ℕ × (ℕ × ℕ))

-- the members of a table, in the order of their keys' bytes
abbrev pub in_order : Members → List (List ℕ × Data)
in_order no_members = []
in_order (member key d rest) = insert_entry (slice_cmp nat_cmp) (in_order rest) key d

-- what stands under `service.command`, in the order of the names' bytes
abbrev pub entries_of : Option Data → List (List ℕ × Data)
entries_of (Some (table ms)) = in_order ms
entries_of _ = []

-- a table of one key
abbrev pub is_single : Data → Bool
is_single (table (member key d no_members)) = true
is_single _ = false

-- the group that the table of a command names: it has the one key `group`, a text
abbrev pub group_named : Data → Option (List ℕ)
group_named d = if is_single d then option_and_then as_str (get (codes "group") d) else None

-- the place of the group that it names, from 0
abbrev pub place_named : List (List ℕ) → Data → Option ℕ
place_named groups d = option_and_then (λ group. position (λ name. bytes_eq name group) groups) (group_named d)

-- the further commands of the group at the place
abbrev pub commands_in : ℕ → Commands → Commands
commands_in place commands = filter (λ c. c.1.0 == place) commands

-- the most further commands of a group
abbrev pub most_further : ℕ
most_further = 15

-- the place, and the number of the next command of the group there behind those before, where it may have one more
abbrev pub numbered : Commands → ℕ → Option (ℕ × ℕ)
numbered before place =
    if nat_lt (length (commands_in place before)) most_further then Some (place, length (commands_in place before) + 1) else None

-- the name may be a further command's: it may name a group, and names none
abbrev pub is_free : List (List ℕ) → List ℕ → Bool
is_free groups name = is_name name && not (list_any (λ group. bytes_eq group name) groups)

-- the group's place and the number of a command behind those before; none where it is bad
abbrev pub next_command : List (List ℕ) → Commands → List ℕ → Data → Option (ℕ × ℕ)
next_command groups before name d =
    if is_free groups name then option_and_then (numbered before) (place_named groups d) else None

-- what comes of the commands before and this one; it is refused at its place, from 1, if it is bad
abbrev pub with_command : (Commands → Result Commands SettingsError) → Commands → List ℕ → Option (ℕ × ℕ) → Result Commands SettingsError
with_command later before name None = Err (refusals.BadCommand (length before + 1))
with_command later before name (Some c) = later (before ++ (name, c) ∷ [])

-- the commands of the entries behind those before, or the place of the first that is bad
abbrev pub commands_from : List (List ℕ) → Commands → List (List ℕ × Data) → Result Commands SettingsError
commands_from groups before [] = Ok before
commands_from groups before (e ∷ rest) = with_command (λ more. commands_from groups more rest) before e.0 (next_command groups before e.0 e.1)

-- the further commands of a file with these groups, in the order of their names' bytes, or why they are refused
abbrev pub commands_of : List (List ℕ) → Data → Result Commands SettingsError
commands_of groups d = commands_from groups [] (entries_of (look_up (keys_of (codes "service.command")) d))
