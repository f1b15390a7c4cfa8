-- The lines of a text of bytes.
use Rattle.std.specs.Prelude.{ℕ, List, [], ◌∷◌, ◌++◌, length, Bool, true, false, ◌==◌, ◌&&◌, nat_le, nat_lt, ◌||◌, if◌then◌else◌}
use Rattle.std.specs.List.{list_any}
use Rattle.std.specs.Str.{is_utf8}

-- A text is cut into its lines in turn. It ends, or stops before a line that is refused.
pub data Cut : Type 0 where
  line : List ℕ → Cut → Cut
  ended : Cut
  stopped : Cut

-- these lines, and then the rest
abbrev pub lines_then : List (List ℕ) → Cut → Cut
lines_then [] rest = rest
lines_then (bytes ∷ lines) rest = line bytes (lines_then lines rest)

-- the most bytes of a line, its carriage return counted
abbrev pub line_limit : ℕ
line_limit = 1024

-- the bytes without the carriage return that may end them
abbrev pub less_return : List ℕ → List ℕ
less_return [] = []
less_return (b ∷ []) = if b == 13 then [] else b ∷ []
less_return (b ∷ c ∷ bs) = b ∷ less_return (c ∷ bs)

-- a line of these bytes, and then the rest; it stops before one that is too long or not UTF-8
unfoldable pub whole_line : List ℕ → Cut → Cut
whole_line bytes rest =
    if nat_le (length bytes) line_limit && is_utf8 (less_return bytes) then line (less_return bytes) rest else stopped

-- what stands behind the last line feed
unfoldable pub last_line : List ℕ → Cut
last_line bytes = if length (less_return bytes) == 0 then ended else whole_line bytes ended

-- the bytes, of which those in front have been read of a line
unfoldable pub cut_from : List ℕ → List ℕ → Cut
cut_from front [] = last_line front
cut_from front (b ∷ bs) = if b == 10 then whole_line front (cut_from [] bs) else cut_from (front ++ b ∷ []) bs

-- all lines of the bytes
abbrev pub cut : List ℕ → Cut
cut bytes = cut_from [] bytes

-- whether a line, good or refused, is known to stand in front
abbrev pub has_line : List ℕ → Bool
has_line bytes = nat_lt line_limit (length bytes) || list_any (λ b. b == 10) bytes

-- whether a line is refused, so that nothing behind it counts
abbrev pub stops : Cut → Bool
stops (line bytes rest) = stops rest
stops ended = false
stops stopped = true
