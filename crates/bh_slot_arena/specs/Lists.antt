-- The lists of one family, by their numbers: each has slots in order.
use Rattle.std.specs.Prelude.{◌≡◌, ℕ, ◌<◌, List, [], ◌∷◌, ◌++◌, map, Some, slice_get, slice_index_or, slice_set}
use Rattle.bh_index_lists.specs.Lists.{without}

-- the slots of a list
abbrev pub list_at : List (List ℕ) → ℕ → List ℕ
list_at lists list = slice_index_or lists list []

-- slots put at the end of a list
abbrev pub put_last : List ℕ → ℕ → List (List ℕ) → List (List ℕ)
put_last slots to lists = slice_set lists to (list_at lists to ++ slots)

-- a slot taken off its list and put last on another, or on the same
abbrev pub moved : ℕ → ℕ → List (List ℕ) → List (List ℕ)
moved slot to lists = put_last (slot ∷ []) to (map (without slot) lists)

-- the slots of a list put at the end of another, in their order; none is on the first then
abbrev pub appended : ℕ → ℕ → List (List ℕ) → List (List ℕ)
appended from to lists = slice_set (put_last (list_at lists from) to lists) from []

-- each of so many slots is at exactly one place of exactly one list, and nothing else is on the lists
pub record IsPartition (slots : ℕ) (lists : List (List ℕ)) : Type 0 where
  pub within : (l k x : ℕ) → slice_get (list_at lists l) k ≡ Some x → x < slots
  pub there : (x : ℕ) → x < slots → (l : ℕ) × (k : ℕ) × (slice_get (list_at lists l) k ≡ Some x)
  pub once : (l m k j x : ℕ) → slice_get (list_at lists l) k ≡ Some x → slice_get (list_at lists m) j ≡ Some x → (l ≡ m) × (k ≡ j)
