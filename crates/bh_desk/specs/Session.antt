-- What a session writes: a whole conversation over a reader and a writer.
use Rattle.std.specs.Prelude.{◌≡◌, ◌⊎◌, ℕ, false, List, [], ◌++◌, Option, Some, None, Result, Ok, Err}
use Rattle.std.specs.Io.KnownBytes.{Appends}
use Rattle.bh_faults.specs.declared.fault.Fault.{Fault}
use Rattle.bh_lines.specs.declared.port_error.PortError.{PortError}
use Rattle.bh_lines.specs.declared.port_error.PortError.TheVariants.{Read, Write, Line, Memory}
use Rattle.bh_lines.specs.Lines.{Cut, ended, stopped, cut, has_line, lines_then}
use Rattle.bh_share.specs.declared.share_line.ShareLine.{ShareLine}
use Rattle.bh_streams.specs.Watched.{WritesFront}
use Rattle.bh_desk.specs.Answers.{Responder, AnswersEach, IsAnswer, LosesOne}

-- all that was held was written, and nothing is held then; or nothing was written, and it is held still
abbrev pub Moves : Option (List ℕ) → Option (List ℕ) → List ℕ → List ℕ → Type 0
Moves w0 w1 held0 held1 = (Appends w0 w1 held0 × (held1 ≡ [])) ⊎ (Appends w0 w1 [] × (held1 ≡ held0))

module _ {S : Type 0} where
  -- One answer to each of the first lines was written, in order, and `rest` is what follows them.
  pub record Wrote (who : Responder S) (old new : S) (w0 w1 : Option (List ℕ)) (all rest : Cut) : Type 0 where
    pub lines : List (List ℕ)
    pub out : List ℕ
    pub each : AnswersEach who old lines out new
    pub wrote : Appends w0 w1 out
    pub cut_is : all ≡ lines_then lines rest

  -- The first lines were answered, and what follows them is not told; one more answer may be lost.
  pub record WroteSome (who : Responder S) (old new : S) (w0 w1 : Option (List ℕ)) (all : Cut) : Type 0 where
    pub rest : Cut
    pub mid : S
    pub some : Wrote who old mid w0 w1 all rest
    pub lost : LosesOne who.may mid new

  -- The first lines were answered, and a front of the answers was written, or all of it, and nothing else; one more answer
  -- may be lost.
  pub record WroteFront (who : Responder S) (old new : S) (w0 w1 : Option (List ℕ)) (all : Cut) : Type 0 where
    pub lines : List (List ℕ)
    pub out : List ℕ
    pub rest : Cut
    pub mid : S
    pub each : AnswersEach who old lines out mid
    pub lost : LosesOne who.may mid new
    pub front : WritesFront w0 w1 out
    pub cut_is : all ≡ lines_then lines rest

  -- what was written for an input that is cut so: all answers, or those to the lines before one that is refused, or those to
  -- some first lines, or a front of those
  abbrev pub SessionOutcome : Responder S → S → S → Option (List ℕ) → Option (List ℕ) → Cut → Result (Unit {0}) PortError → Type 0
  SessionOutcome who old new w0 w1 all (Ok x) = Wrote who old new w0 w1 all ended
  SessionOutcome who old new w0 w1 all (Err Line) = Wrote who old new w0 w1 all stopped
  SessionOutcome who old new w0 w1 all (Err Memory) = WroteSome who old new w0 w1 all
  SessionOutcome who old new w0 w1 all (Err Read) = WroteSome who old new w0 w1 all
  SessionOutcome who old new w0 w1 all (Err Write) = WroteFront who old new w0 w1 all

  -- Every line that had ended in what was read of `input` was answered: `left` was not read, and `kept` is of a line that had
  -- not ended.
  pub record AnsweredRead (who : Responder S) (old new : S) (w0 w1 : Option (List ℕ)) (input left : List ℕ) : Type 0 where
    pub read : List ℕ
    pub kept : List ℕ
    pub lines : List (List ℕ)
    pub out : List ℕ
    pub input_is : input ≡ read ++ left
    pub each : AnswersEach who old lines out new
    pub wrote : Appends w0 w1 out
    pub cut_is : (more : List ℕ) → cut (read ++ more) ≡ lines_then lines (cut (kept ++ more))
    pub no_line : has_line kept ≡ false

  -- the same of a reader that had these bytes left, if they are known, and has those left now
  abbrev pub HasAnswered : Responder S → S → S → Option (List ℕ) → Option (List ℕ) → Option (List ℕ) → Option (List ℕ) → Type 0
  HasAnswered who old new w0 w1 None left = Unit {0}
  HasAnswered who old new w0 w1 (Some input) None = ⊥
  HasAnswered who old new w0 w1 (Some input) (Some left) = AnsweredRead who old new w0 w1 input left

  -- Whatever bytes follow, lines of `all` have ended, each was answered and the answers were written; `next` says what
  -- stands behind these lines.
  pub record WroteUpTo (who : Responder S) (old new : S) (w0 w1 : Option (List ℕ)) (all : List ℕ) (next : List ℕ → Cut) : Type 0 where
    pub lines : List (List ℕ)
    pub out : List ℕ
    pub each : AnswersEach who old lines out new
    pub wrote : Appends w0 w1 out
    pub cut_is : (more : List ℕ) → cut (all ++ more) ≡ lines_then lines (next more)

  -- the same, with further lines behind these, whose answers are held and not written yet
  abbrev pub HoldsUpTo : Responder S → S → S → Option (List ℕ) → Option (List ℕ) → List ℕ → (List ℕ → Cut) → List ℕ → Type 0
  HoldsUpTo who old new w0 w1 all next held =
      (waiting : List (List ℕ)) × (mid : S) × AnswersEach who mid waiting held new
      × WroteUpTo who old mid w0 w1 all (λ more. lines_then waiting (next more))

  -- Whatever bytes follow, lines of `all` have ended, and each was answered; a front of the answers was written.
  pub record BreaksOff (who : Responder S) (old new : S) (w0 w1 : Option (List ℕ)) (all : List ℕ) : Type 0 where
    pub lines : List (List ℕ)
    pub out : List ℕ
    pub mid : S
    pub each : AnswersEach who old lines out mid
    pub lost : LosesOne who.may mid new
    pub front : WritesFront w0 w1 out
    pub cut_is : (more : List ℕ) → (rest : Cut) × (cut (all ++ more) ≡ lines_then lines rest)

  -- the line that says this was answered, and the answer is held behind what was held before, of which all was written or
  -- nothing; or memory was refused for it; or a front of what was held was written, and nothing was done
  abbrev pub LineOutcome : (S → ShareLine → List ℕ → S → Type 0) → S → S → Option (List ℕ) → Option (List ℕ) → Result ShareLine Fault → List ℕ → Result (Unit {0}) PortError → List ℕ → Type 0
  LineOutcome may old new w0 w1 asked held (Ok x) later =
      (mid : List ℕ) × Moves w0 w1 held mid × (one : List ℕ) × IsAnswer may old asked one new × (later ≡ mid ++ one)
  LineOutcome may old new w0 w1 asked held (Err Memory) later = Moves w0 w1 held later × LosesOne may old new
  LineOutcome may old new w0 w1 asked held (Err Write) later = WritesFront w0 w1 held × (new ≡ old)
  LineOutcome may old new w0 w1 asked held (Err Line) later = ⊥
  LineOutcome may old new w0 w1 asked held (Err Read) later = ⊥

  -- what was written and what is held for the lines in front of `all`, of which `rest` is left
  abbrev pub LinesOutcome : Responder S → S → S → Option (List ℕ) → Option (List ℕ) → List ℕ → Result (Unit {0}) PortError → List ℕ → List ℕ → Type 0
  LinesOutcome who old new w0 w1 all (Ok x) rest held = HoldsUpTo who old new w0 w1 all (λ more. cut (rest ++ more)) held × (has_line rest ≡ false)
  LinesOutcome who old new w0 w1 all (Err Line) rest held = HoldsUpTo who old new w0 w1 all (λ more. stopped) held
  LinesOutcome who old new w0 w1 all (Err Memory) rest held =
      (next : List ℕ → Cut) × (mid : S) × HoldsUpTo who old mid w0 w1 all next held × LosesOne who.may mid new
  LinesOutcome who old new w0 w1 all (Err Read) rest held = ⊥
  LinesOutcome who old new w0 w1 all (Err Write) rest held = BreaksOff who old new w0 w1 all

  -- the same where no answer is held any more
  abbrev pub PieceOutcome : Responder S → S → S → Option (List ℕ) → Option (List ℕ) → List ℕ → Result (Unit {0}) PortError → List ℕ → Type 0
  PieceOutcome who old new w0 w1 all (Ok x) rest = WroteUpTo who old new w0 w1 all (λ more. cut (rest ++ more)) × (has_line rest ≡ false)
  PieceOutcome who old new w0 w1 all (Err Line) rest = WroteUpTo who old new w0 w1 all (λ more. stopped)
  PieceOutcome who old new w0 w1 all (Err Memory) rest =
      (next : List ℕ → Cut) × (mid : S) × WroteUpTo who old mid w0 w1 all next × LosesOne who.may mid new
  PieceOutcome who old new w0 w1 all (Err Read) rest = ⊥
  PieceOutcome who old new w0 w1 all (Err Write) rest = BreaksOff who old new w0 w1 all

  -- The bytes that were kept are the last line, or none, and it is answered in `out`.
  pub record AnsweredLast (who : Responder S) (old new : S) (rest out : List ℕ) : Type 0 where
    pub lines : List (List ℕ)
    pub each : AnswersEach who old lines out new
    pub cut_is : cut rest ≡ lines_then lines ended

  -- what was written for the last line, or none, where `rest` was kept
  abbrev pub LastOutcome : Responder S → S → S → Option (List ℕ) → Option (List ℕ) → List ℕ → Result (Unit {0}) PortError → Type 0
  LastOutcome who old new w0 w1 rest (Ok x) = (out : List ℕ) × AnsweredLast who old new rest out × Appends w0 w1 out
  LastOutcome who old new w0 w1 rest (Err Line) = (cut rest ≡ stopped) × Appends w0 w1 [] × (new ≡ old)
  LastOutcome who old new w0 w1 rest (Err Memory) = Appends w0 w1 [] × LosesOne who.may old new
  LastOutcome who old new w0 w1 rest (Err Read) = ⊥
  LastOutcome who old new w0 w1 rest (Err Write) = WroteFront who old new w0 w1 (cut rest)
