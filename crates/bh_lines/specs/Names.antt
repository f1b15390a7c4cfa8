-- The names of groups and of their commands.
use Rattle.std.specs.Prelude.{ℕ, List, Option, Some, None, Bool, false, ◌==◌, ◌&&◌, if◌then◌else◌, slice_get, find, option_map, option_and_then}
use Rattle.std.specs.Option.{option_map_or}
use Rattle.std.specs.Str.{bytes_eq}

-- The groups in the order of their numbers, and from each further command's name to its group's number and its own number
-- there. A group's own command, number 0, has the group's name and does not stand among the further ones.
pub record Names : Type 0 where
  pub groups : List (List ℕ)
  pub commands : List (List ℕ × (ℕ × ℕ))

-- the name is that of the group
abbrev pub is_own_name : Names → ℕ → List ℕ → Bool
is_own_name names group name = option_map_or (λ own. bytes_eq own name) (slice_get names.groups group) false

-- the number of the further command of this name, where it is of this group
abbrev pub further_number : Names → ℕ → List ℕ → Option ℕ
further_number names group name =
    option_and_then (λ c. if c.1.0 == group then Some c.1.1 else None) (find (λ c. bytes_eq c.0 name) names.commands)

-- the number of the command of this name in the group: 0 for the group's own name
abbrev pub command_number : Names → ℕ → List ℕ → Option ℕ
command_number names group name = if is_own_name names group name then Some 0 else further_number names group name

-- the name of the group's further command of this number; none for its own one, number 0
abbrev pub command_name : Names → ℕ → ℕ → Option (List ℕ)
command_name names group number =
    if number == 0 then None else option_map (λ c. c.0) (find (λ c. (c.1.0 == group) && (c.1.1 == number)) names.commands)
