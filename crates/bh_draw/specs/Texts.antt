-- How a text ends.
use Rattle.std.specs.Prelude.{◌≡◌, ◌++◌, ℕ, List}

-- the text ends so
abbrev pub EndsIn : List ℕ → List ℕ → Type 0
EndsIn tail text = (front : List ℕ) × (text ≡ front ++ tail)
