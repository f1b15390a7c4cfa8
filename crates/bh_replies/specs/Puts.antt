-- What is put behind bytes.
use Rattle.std.specs.Prelude.{◌≡◌, ◌+◌, ◌<◌, ◌≤◌, ℕ, Bool, true, List, [], ◌∷◌, ◌++◌, ◌==◌, if◌then◌else◌, decimal, length, Result, OnOk, OnErr, vec_len, vec_capacity}
use Rattle.serde_json.specs.Written.{comma_if}
use Rattle.std.specs.declared.vec.Vec.{Vec}
use Rattle.std.specs.declared.alloc.AllocError.{AllocError}

-- what stood there stays; where all went well, the text stands behind it, and is no longer than the most that it takes; and it
-- failed only where there was not room for that
pub record Puts {A : Type 0} (result : Result (Unit {0}) AllocError) (old new : Vec ℕ A) (text : List ℕ) (most : ℕ) : Type 0 where
  pub kept : (more : List ℕ) × (new.items ≡ old.items ++ more)
  pub items : OnOk result (new.items ≡ old.items ++ text)
  pub size : OnOk result (length text ≤ most)
  pub spare : OnOk result (vec_capacity old + vec_len new ≤ vec_capacity new + vec_len old + most)
  pub full : OnErr result (vec_capacity old < vec_len old + most)

-- the same of an object to which no piece is put: how much room it left is not told
pub record PutsObject {A : Type 0} (result : Result (Unit {0}) AllocError) (old new : Vec ℕ A) (text : List ℕ) (most : ℕ) : Type 0 where
  pub kept : (more : List ℕ) × (new.items ≡ old.items ++ more)
  pub items : OnOk result (new.items ≡ old.items ++ text)
  pub size : OnOk result (length text ≤ most)
  pub full : OnErr result (vec_capacity old < vec_len old + most)

-- a count behind its front, with a comma before it where something stands before, unless the count is 0
abbrev pub count_text : Bool → List ℕ → ℕ → List ℕ
count_text later front n = if n == 0 then [] else comma_if later ++ (front ++ decimal n)

-- each count that is not 0 behind its front, with commas between
abbrev pub counts_text : Bool → List (List ℕ) → List ℕ → List ℕ
counts_text later [] counts = []
counts_text later (front ∷ fronts) [] = []
counts_text later (front ∷ fronts) (n ∷ counts) = if n == 0 then counts_text later fronts counts else (comma_if later ++ (front ++ decimal n)) ++ counts_text true fronts counts

-- the most bytes that they take
abbrev pub counts_most : List (List ℕ) → ℕ
counts_most [] = 0
counts_most (front ∷ fronts) = (1 + (length front + 20)) + counts_most fronts
