-- What a cut has written, at its end and on the way.
use Rattle.std.specs.Prelude.{◌≡◌, ℕ, true, false, List, ◌++◌, Option, Some, None, Result, Ok, Err}
use Rattle.std.specs.Io.KnownBytes.{Appends}
use Rattle.bh_lines.specs.declared.port_error.PortError.{PortError}
use Rattle.bh_lines.specs.declared.port_error.PortError.TheVariants.{Read, Write, Line, Memory}
use Rattle.bh_lines.specs.Lines.{cut, stops, has_line}
use Rattle.bh_streams.specs.Watched.{WritesFront}
use Rattle.bh_cut.specs.Kept.{kept}

-- what a cut comes to over these bytes
abbrev pub CutOutcome : Option (List ℕ) → Option (List ℕ) → List (List ℕ) → List ℕ → Result (Unit {0}) PortError → Type 0
CutOutcome w0 w1 names bytes (Ok x) = Appends w0 w1 (kept names bytes) × (stops (cut bytes) ≡ false)
CutOutcome w0 w1 names bytes (Err Line) = Appends w0 w1 (kept names bytes) × (stops (cut bytes) ≡ true)
CutOutcome w0 w1 names bytes (Err Memory) = WritesFront w0 w1 (kept names bytes)
CutOutcome w0 w1 names bytes (Err Read) = WritesFront w0 w1 (kept names bytes)
CutOutcome w0 w1 names bytes (Err Write) = WritesFront w0 w1 (kept names bytes)

-- The lines that `old` begins with were looked at, up to `new`, and written where they are kept, whatever bytes follow.
pub record IsCutUpTo (w0 w1 : Option (List ℕ)) (names : List (List ℕ)) (old new : List ℕ) : Type 0 where
  pub out : List ℕ
  pub wrote : Appends w0 w1 out
  pub kept_is : (more : List ℕ) → kept names (old ++ more) ≡ out ++ kept names (new ++ more)
  pub stops_is : (more : List ℕ) → stops (cut (old ++ more)) ≡ stops (cut (new ++ more))

-- Every line that had ended in what was read of `input` was looked at: `left` was not read, and `rest` is of a line that had
-- not ended.
pub record IsCutRead (input left : List ℕ) (w0 w1 : Option (List ℕ)) (names : List (List ℕ)) : Type 0 where
  pub read : List ℕ
  pub rest : List ℕ
  pub input_is : input ≡ read ++ left
  pub cut_up : IsCutUpTo w0 w1 names read rest
  pub no_line : has_line rest ≡ false

-- the same of a reader that had these bytes left, if they are known, and has those left now
abbrev pub HasCut : Option (List ℕ) → Option (List ℕ) → Option (List ℕ) → Option (List ℕ) → List (List ℕ) → Type 0
HasCut None left w0 w1 names = Unit {0}
HasCut (Some input) None w0 w1 names = ⊥
HasCut (Some input) (Some left) w0 w1 names = IsCutRead input left w0 w1 names
