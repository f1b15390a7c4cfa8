-- How request contexts and cache names are spread.
use Rattle.std.specs.Prelude.{ℕ, ◌+◌, ◌*◌, ◌^◌, ◌/◌, ◌%◌, List, [], ◌∷◌}

-- each byte of a text is mixed into what came before
abbrev pub mixed : ℕ → List ℕ → ℕ
mixed h [] = h
mixed h (b ∷ bs) = mixed ((h + b) % 2 ^ 64 * 1099511628211 % 2 ^ 64) bs

-- the upper half of a number folded upon the lower one, and of that, spread once more, the upper half
abbrev pub upper_half : ℕ → ℕ
upper_half h = (h + h / 2 ^ 32) % 2 ^ 64 * 11400714819323198485 % 2 ^ 64 / 2 ^ 32

-- by a hash of the request context and the bytes of the key
unfoldable pub place_of_name : ℕ × List ℕ → ℕ
place_of_name name = upper_half (mixed name.0 name.1)
