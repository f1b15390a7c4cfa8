-- Whose properties are checked and shown: each group, and behind it its further commands.
use Rattle.std.specs.Prelude.{ℕ, List, ◌∷◌, map, take, drop}
use Rattle.std.specs.List.{flat_map}
use Rattle.bh_base.specs.Commands.{each_from}
use Rattle.bh_props.specs.declared.property.Property.{Property}
use Rattle.bh_props.specs.declared.subject.Scope.{Scope}
use Rattle.bh_props.specs.declared.subject.Scope.TheVariants as scopes
use Rattle.bh_props.specs.declared.subject.Subject.{Subject}
use Rattle.bh_props.specs.Table.{all}
use Rattle.bh_props.specs.Commands.{Commands, commands_in}

-- the properties of a command: numbers 3 to 18 of the table
abbrev pub of_command : List Property
of_command = drop 2 (take 18 all)

-- the properties that a subject of the scope has
abbrev pub properties_of : Scope → List Property
properties_of scopes.Group = all
properties_of scopes.Command = of_command

-- a group
abbrev pub a_group : List ℕ → Subject
a_group name = record { name = name; scope = scopes.Group }

-- a further command
abbrev pub a_command : List ℕ → Subject
a_command name = record { name = name; scope = scopes.Command }

-- the group at the place, then its further commands
abbrev pub subjects_at : Commands → ℕ → List ℕ → List Subject
subjects_at commands place group = a_group group ∷ map (λ c. a_command c.0) (commands_in place commands)

-- the groups in listed order, each with its further commands behind it
abbrev pub subjects : List (List ℕ) → Commands → List Subject
subjects groups commands = flat_map (λ some. some) (each_from 0 (subjects_at commands) groups)
