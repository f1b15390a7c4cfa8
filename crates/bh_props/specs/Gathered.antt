-- How many further commands each group has so far.
use Rattle.std.specs.Prelude.{◌≡◌, ℕ, ◌<◌, List, length, slice_index}
use Rattle.bh_props.specs.Commands.{Commands, commands_in}

-- each number is how many of the commands are of the group at its place
abbrev pub AreCounted : Commands → List ℕ → Type 0
AreCounted commands counts = (place : ℕ) → place < length counts → slice_index counts place ≡ length (commands_in place commands)
