-- A list that a slot may leave as a request context ends.
use Rattle.std.specs.Prelude.{ℕ, Bool, if◌then◌else◌, List}
use Rattle.bh_index_lists.specs.Lists.{without}

-- a list without the slot, where it is to go
abbrev pub without_if : Bool → ℕ → List ℕ → List ℕ
without_if b x xs = if b then without x xs else xs
