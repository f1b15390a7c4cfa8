-- Where the further commands of each group stand in their list.
use Rattle.std.specs.Prelude.{◌≡◌, ℕ, ◌+◌, ◌*◌, ◌<◌, Bool, ◌==◌, ◌&&◌, List, Some, find, slice_get}

-- it is the further command of the number in the group
abbrev pub is_numbered : ℕ → ℕ → List ℕ × (ℕ × ℕ) → Bool
is_numbered group number c = (c.1.0 == group) && (c.1.1 == number)

-- for each group there are sixteen places in the list of further commands: at the number of a command stands where the list
-- has it first, or a place past the end where it has none
pub record AreCommandPlaces (commands : List (List ℕ × (ℕ × ℕ))) (places : List ℕ) : Type 0 where
  pub first : (group number place : ℕ) → number < 16 → slice_get places (group * 16 + number) ≡ Some place
      → find (is_numbered group number) commands ≡ slice_get commands place
