-- What a session writes: a whole conversation over a reader and a writer.
use Rattle.std.specs.Prelude.{◌≡◌, ◌⊎◌, ℕ, false, List, [], ◌++◌, Option, Some, None, Result, Ok, Err}
use Rattle.std.specs.Io.KnownBytes.{Appends}
use Rattle.bh_lines.specs.declared.port_error.PortError.{PortError}
use Rattle.bh_lines.specs.declared.port_error.PortError.TheVariants.{Read, Write, Line, Memory}
use Rattle.bh_lines.specs.Lines.{Cut, ended, stopped, cut, has_line, lines_then}
use Rattle.bh_streams.specs.Watched.{WritesFront}
use Rattle.bh_control.specs.AnswerLine.{Responder}
use Rattle.bh_control.specs.Pieces.{AnswersEach, AnsweredLast}

-- One answer to each of the first lines was written, in order, and `rest` is what follows them.
pub record Wrote (who : Responder) (w0 w1 : Option (List ℕ)) (all rest : Cut) : Type 0 where
  pub lines : List (List ℕ)
  pub out : List ℕ
  pub each : AnswersEach who lines out
  pub wrote : Appends w0 w1 out
  pub cut_is : all ≡ lines_then lines rest

-- The first lines were answered, and what follows them is not told.
pub record WroteSome (who : Responder) (w0 w1 : Option (List ℕ)) (all : Cut) : Type 0 where
  pub rest : Cut
  pub some : Wrote who w0 w1 all rest

-- The first lines were answered, and a front of the answers was written, or all of it, and nothing else.
pub record WroteFront (who : Responder) (w0 w1 : Option (List ℕ)) (all : Cut) : Type 0 where
  pub lines : List (List ℕ)
  pub out : List ℕ
  pub rest : Cut
  pub each : AnswersEach who lines out
  pub front : WritesFront w0 w1 out
  pub cut_is : all ≡ lines_then lines rest

-- what was written for an input that is cut so: all answers, or those to the lines before one that is refused, or those to
-- some first lines, or a front of those
abbrev pub SessionOutcome : Responder → Option (List ℕ) → Option (List ℕ) → Cut → Result (Unit {0}) PortError → Type 0
SessionOutcome who w0 w1 all (Ok x) = Wrote who w0 w1 all ended
SessionOutcome who w0 w1 all (Err Line) = Wrote who w0 w1 all stopped
SessionOutcome who w0 w1 all (Err Memory) = WroteSome who w0 w1 all
SessionOutcome who w0 w1 all (Err Read) = WroteSome who w0 w1 all
SessionOutcome who w0 w1 all (Err Write) = WroteFront who w0 w1 all

-- Every line that had ended in what was read of `input` was answered: `left` was not read, and `kept` is of a line that had
-- not ended.
pub record AnsweredRead (who : Responder) (w0 w1 : Option (List ℕ)) (input left : List ℕ) : Type 0 where
  pub read : List ℕ
  pub kept : List ℕ
  pub lines : List (List ℕ)
  pub out : List ℕ
  pub input_is : input ≡ read ++ left
  pub each : AnswersEach who lines out
  pub wrote : Appends w0 w1 out
  pub cut_is : (more : List ℕ) → cut (read ++ more) ≡ lines_then lines (cut (kept ++ more))
  pub no_line : has_line kept ≡ false

-- the same of a reader that had these bytes left, if they are known, and has those left now
abbrev pub HasAnswered : Responder → Option (List ℕ) → Option (List ℕ) → Option (List ℕ) → Option (List ℕ) → Type 0
HasAnswered who w0 w1 None left = Unit {0}
HasAnswered who w0 w1 (Some input) None = ⊥
HasAnswered who w0 w1 (Some input) (Some left) = AnsweredRead who w0 w1 input left

-- Whatever bytes follow, lines of `all` have ended, each was answered and the answers were written; `next` says what
-- stands behind these lines.
pub record WroteUpTo (who : Responder) (w0 w1 : Option (List ℕ)) (all : List ℕ) (next : List ℕ → Cut) : Type 0 where
  pub lines : List (List ℕ)
  pub out : List ℕ
  pub each : AnswersEach who lines out
  pub wrote : Appends w0 w1 out
  pub cut_is : (more : List ℕ) → cut (all ++ more) ≡ lines_then lines (next more)

-- the same, with further lines behind these, whose answers are held and not written yet
abbrev pub HoldsUpTo : Responder → Option (List ℕ) → Option (List ℕ) → List ℕ → (List ℕ → Cut) → List ℕ → Type 0
HoldsUpTo who w0 w1 all next held =
    (waiting : List (List ℕ)) × AnswersEach who waiting held × WroteUpTo who w0 w1 all (λ more. lines_then waiting (next more))

-- Whatever bytes follow, lines of `all` have ended, and each was answered; a front of the answers was written.
pub record BreaksOff (who : Responder) (w0 w1 : Option (List ℕ)) (all : List ℕ) : Type 0 where
  pub lines : List (List ℕ)
  pub out : List ℕ
  pub each : AnswersEach who lines out
  pub front : WritesFront w0 w1 out
  pub cut_is : (more : List ℕ) → (rest : Cut) × (cut (all ++ more) ≡ lines_then lines rest)

-- all that was held was written, and nothing is held then; or nothing was written, and it is held still
abbrev pub Moves : Option (List ℕ) → Option (List ℕ) → List ℕ → List ℕ → Type 0
Moves w0 w1 held0 held1 = (Appends w0 w1 held0 × (held1 ≡ [])) ⊎ (Appends w0 w1 [] × (held1 ≡ held0))

-- what was written and what is held for the lines in front of `all`, of which `rest` is left
abbrev pub LinesOutcome : Responder → Option (List ℕ) → Option (List ℕ) → List ℕ → Result (Unit {0}) PortError → List ℕ → List ℕ → Type 0
LinesOutcome who w0 w1 all (Ok x) rest held = HoldsUpTo who w0 w1 all (λ more. cut (rest ++ more)) held × (has_line rest ≡ false)
LinesOutcome who w0 w1 all (Err Line) rest held = HoldsUpTo who w0 w1 all (λ more. stopped) held
LinesOutcome who w0 w1 all (Err Memory) rest held = (next : List ℕ → Cut) × HoldsUpTo who w0 w1 all next held
LinesOutcome who w0 w1 all (Err Read) rest held = ⊥
LinesOutcome who w0 w1 all (Err Write) rest held = BreaksOff who w0 w1 all

-- the same where no answer is held any more
abbrev pub PieceOutcome : Responder → Option (List ℕ) → Option (List ℕ) → List ℕ → Result (Unit {0}) PortError → List ℕ → Type 0
PieceOutcome who w0 w1 all (Ok x) rest = WroteUpTo who w0 w1 all (λ more. cut (rest ++ more)) × (has_line rest ≡ false)
PieceOutcome who w0 w1 all (Err Line) rest = WroteUpTo who w0 w1 all (λ more. stopped)
PieceOutcome who w0 w1 all (Err Memory) rest = (next : List ℕ → Cut) × WroteUpTo who w0 w1 all next
PieceOutcome who w0 w1 all (Err Read) rest = ⊥
PieceOutcome who w0 w1 all (Err Write) rest = BreaksOff who w0 w1 all

-- what was written for the last line, or none, where `rest` was kept
abbrev pub LastOutcome : Responder → Option (List ℕ) → Option (List ℕ) → List ℕ → Result (Unit {0}) PortError → Type 0
LastOutcome who w0 w1 rest (Ok x) = (out : List ℕ) × AnsweredLast who rest out × Appends w0 w1 out
LastOutcome who w0 w1 rest (Err Line) = (cut rest ≡ stopped) × Appends w0 w1 []
LastOutcome who w0 w1 rest (Err Memory) = Appends w0 w1 []
LastOutcome who w0 w1 rest (Err Read) = ⊥
LastOutcome who w0 w1 rest (Err Write) = (out : List ℕ) × AnsweredLast who rest out × WritesFront w0 w1 out
