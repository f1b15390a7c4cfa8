-- What is taken of the bytes that have come, and what it asks.
use Rattle.std.specs.Prelude.{◌≡◌, ℕ, ◌<◌, false, List, ◌++◌, length, Option, Some, None, Result, Ok, Err}
use Rattle.bh_faults.specs.declared.fault.Fault.{Fault}
use Rattle.bh_lines.specs.declared.port_error.PortError.{PortError}
use Rattle.bh_lines.specs.declared.port_error.PortError.TheVariants.{Read, Write, Line, Memory}
use Rattle.bh_lines.specs.Lines.{line, ended, stopped, cut, has_line}
use Rattle.bh_lines.specs.Names.{Names}
use Rattle.bh_lines.specs.Taken.{IsBehindFeed}
use Rattle.bh_share.specs.declared.share_line.ShareLine.{ShareLine}
use Rattle.bh_share.specs.ShareLine.{share_line}

-- what the next line of `old` asks of the groups and commands with these names, whatever bytes follow, and what is left behind it
abbrev pub TakesAsked : Names → List ℕ → Result (Option (Result ShareLine Fault)) PortError → List ℕ → Type 0
TakesAsked names old (Ok (Some asked)) new =
    (bytes : List ℕ) × (asked ≡ share_line names bytes) × (length new < length old)
    × ((more : List ℕ) → cut (old ++ more) ≡ line bytes (cut (new ++ more))) × IsBehindFeed old new
TakesAsked names old (Ok None) new = (has_line old ≡ false) × (new ≡ old)
TakesAsked names old (Err Line) new = (more : List ℕ) → cut (old ++ more) ≡ stopped
TakesAsked names old (Err Memory) new = Unit {0}
TakesAsked names old (Err Read) new = ⊥
TakesAsked names old (Err Write) new = ⊥

-- what the last line of an input that ends with `rest` asks
abbrev pub IsLastAsked : Names → List ℕ → Result (Option (Result ShareLine Fault)) PortError → Type 0
IsLastAsked names rest (Ok (Some asked)) = (bytes : List ℕ) × (asked ≡ share_line names bytes) × (cut rest ≡ line bytes ended)
IsLastAsked names rest (Ok None) = cut rest ≡ ended
IsLastAsked names rest (Err Line) = cut rest ≡ stopped
IsLastAsked names rest (Err Memory) = Unit {0}
IsLastAsked names rest (Err Read) = ⊥
IsLastAsked names rest (Err Write) = ⊥
