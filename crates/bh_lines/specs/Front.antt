-- The plain line in front of some bytes, where it stands.
use Rattle.std.specs.Prelude.{◌≡◌, ◌⊎◌, ℕ, ◌<◌, ◌≤◌, true, false, List, ◌++◌, length, drop, Option, Some, None}
use Rattle.std.specs.Borrow.{Bor}
use Rattle.std.specs.Str.{is_utf8}
use Rattle.bh_lines.specs.declared.front.FrontLine.{FrontLine}
use Rattle.bh_lines.specs.Lines.{line, stopped, cut, has_line}
use Rattle.bh_lines.specs.Taken.{IsBehindFeed}

-- what the next line of the bytes is, whatever bytes follow, and how many of them it takes; there is none only where no line
-- has ended, or where it is refused
abbrev pub IsFront : List ℕ → Option FrontLine → Type 0
IsFront bytes (Some front) =
    (0 < front.taken) × (front.taken ≤ length bytes)
    × ((more : List ℕ) → cut (bytes ++ more) ≡ line front.text.now (cut (drop front.taken bytes ++ more)))
    × IsBehindFeed bytes (drop front.taken bytes)
IsFront bytes None = (has_line bytes ≡ false) ⊎ ((more : List ℕ) → cut (bytes ++ more) ≡ stopped)

-- the bytes as text, unless they are not UTF-8
abbrev pub IsTextOf : List ℕ → Option (Bor (List ℕ)) → Type 0
IsTextOf bytes (Some text) = (text.now ≡ bytes) × (is_utf8 bytes ≡ true)
IsTextOf bytes None = is_utf8 bytes ≡ false
