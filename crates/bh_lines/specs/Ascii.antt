-- A line of ASCII, and the bytes at which ASCII or a line ends.
use Rattle.std.specs.Prelude.{ℕ, ◌≤◌, ◌||◌, ◌==◌, nat_le, Bool, not, List, take, Some}
use Rattle.std.specs.Str.{IsAscii}
use Rattle.memchr.specs.Find.{IsFirstByte, is_byte}

-- a line feed, or a byte that is not ASCII
abbrev pub is_mark : ℕ → Bool
is_mark x = (x == 10) || nat_le 128 x

abbrev pub is_unmarked : ℕ → Bool
is_unmarked x = not (is_mark x)

-- the first line feed stands there and is near, and what stands before it is ASCII
abbrev pub IsAsciiEnd : List ℕ → ℕ → Type 0
IsAsciiEnd bytes feed = IsFirstByte (is_byte 10) bytes (Some feed) × IsAscii (take feed bytes) × (feed ≤ 1024)
