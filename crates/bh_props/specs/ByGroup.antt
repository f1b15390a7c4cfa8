-- The further commands, in a list for each group.
use Rattle.std.specs.Prelude.{◌≡◌, ℕ, ◌<◌, List, length, get_or, Vec}
use Rattle.std.specs.declared.alloc.Global.{Global}
use Rattle.bh_props.specs.Commands.{Commands, commands_in}

-- each list has the further commands of the group at its place
abbrev pub AreByGroup : Commands → List (Vec (List ℕ × (ℕ × ℕ)) Global) → Type 0
AreByGroup commands lists = (place : ℕ) (none : Vec (List ℕ × (ℕ × ℕ)) Global) → place < length lists → (get_or lists place none).items ≡ commands_in place commands
