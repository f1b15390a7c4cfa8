-- What is taken of the bytes that have come.
use Rattle.std.specs.Prelude.{◌≡◌, ◌⊎◌, ℕ, ◌<◌, false, List, ◌∷◌, ◌++◌, length, String, string_bytes, Option, Some, None, Result, Ok, Err}
use Rattle.std.specs.declared.alloc.Global.{Global}
use Rattle.bh_lines.specs.declared.port_error.PortError.{PortError}
use Rattle.bh_lines.specs.declared.port_error.PortError.TheVariants.{Read, Write, Line, Memory}
use Rattle.bh_lines.specs.Lines.{line, ended, stopped, cut, has_line}

-- `new` is what stands in `old` behind a line feed
abbrev pub IsBehindFeed : List ℕ → List ℕ → Type 0
IsBehindFeed old new = (front : List ℕ) × (old ≡ front ++ 10 ∷ new)

-- `rest` is all of the bytes, or what stands in them behind a line feed
abbrev pub IsBehind : List ℕ → List ℕ → Type 0
IsBehind all rest = (rest ≡ all) ⊎ IsBehindFeed all rest

-- what the next line of `old` is, whatever bytes follow, and what is left behind it
abbrev pub TakesLine : List ℕ → Result (Option (String Global)) PortError → List ℕ → Type 0
TakesLine old (Ok (Some s)) new =
    (length new < length old) × ((more : List ℕ) → cut (old ++ more) ≡ line (string_bytes s) (cut (new ++ more))) × IsBehindFeed old new
TakesLine old (Ok None) new = (has_line old ≡ false) × (new ≡ old)
TakesLine old (Err Line) new = (more : List ℕ) → cut (old ++ more) ≡ stopped
TakesLine old (Err Memory) new = Unit {0}
TakesLine old (Err Read) new = ⊥
TakesLine old (Err Write) new = ⊥

-- what the last line of an input that ends with `rest` is
abbrev pub IsLast : List ℕ → Result (Option (String Global)) PortError → Type 0
IsLast rest (Ok (Some s)) = cut rest ≡ line (string_bytes s) ended
IsLast rest (Ok None) = cut rest ≡ ended
IsLast rest (Err Line) = cut rest ≡ stopped
IsLast rest (Err Memory) = Unit {0}
IsLast rest (Err Read) = ⊥
IsLast rest (Err Write) = ⊥

-- want of memory, or a line that is refused
abbrev pub IsMemoryOrLine : PortError → Type 0
IsMemoryOrLine Line = Unit {0}
IsMemoryOrLine Memory = Unit {0}
IsMemoryOrLine Read = ⊥
IsMemoryOrLine Write = ⊥
