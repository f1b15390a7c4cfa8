-- What stands in the bytes of the caller after a call.
use Rattle.std.specs.Prelude.{◌≡◌, ℕ, List, ◌++◌, length, drop}

-- the bytes with these in place of as many in front
abbrev pub front_replaced : List ℕ → List ℕ → List ℕ
front_replaced bytes buffer = bytes ++ drop (length bytes) buffer

-- the bytes stand in front of what else was there, and their length is told
pub record IsWritten (bytes old new : List ℕ) (told : ℕ) : Type 0 where
  pub front : new ≡ front_replaced bytes old
  pub count : told ≡ length bytes
