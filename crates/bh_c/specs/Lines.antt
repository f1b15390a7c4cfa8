-- The text of a line.
use Rattle.std.specs.Prelude.{ℕ, List, length, nat_le, Option, Some, None, if◌then◌else◌}
use Rattle.std.specs.Str.{is_utf8}
use Rattle.bh_lines.specs.Lines.{line_limit}

-- the bytes, where they are UTF-8
unfoldable pub if_text : List ℕ → Option (List ℕ)
if_text bytes = if is_utf8 bytes then Some bytes else None

-- the text of a line of at most 1,024 bytes
abbrev pub line_text : List ℕ → Option (List ℕ)
line_text line = if nat_le (length line) line_limit then if_text line else None
