-- What a conversation answers to the pieces of a stream.
use Rattle.std.specs.Prelude.{◌≡◌, ◌≢◌, ℕ, false, List, [], ◌∷◌, ◌++◌, Option, Some, None, Result, Ok, Err, Vec}
use Rattle.std.specs.declared.alloc.Global.{Global}
use Rattle.bh_lines.specs.declared.port_error.PortError.{PortError}
use Rattle.bh_lines.specs.declared.port_error.PortError.TheVariants.{Read, Write, Line, Memory}
use Rattle.bh_lines.specs.Lines.{ended, stopped, cut, has_line, lines_then}
use Rattle.bh_lines.specs.Taken.{IsBehind}
use Rattle.bh_control.specs.AnswerLine.{Responder, Answers}

-- the bytes are one answer to each line, in order
abbrev pub AnswersEach : Responder → List (List ℕ) → List ℕ → Type 0
AnswersEach who [] out = out ≡ []
AnswersEach who (bytes ∷ lines) out =
    (one : List ℕ) × (others : List ℕ) × Answers who bytes one × AnswersEach who lines others × (out ≡ one ++ others)

-- Whatever bytes follow, lines of `all` have ended, each is answered in `out`, and `rest` is left.
pub record AnsweredUpTo (who : Responder) (all rest out : List ℕ) : Type 0 where
  pub lines : List (List ℕ)
  pub each : AnswersEach who lines out
  pub cut_is : (more : List ℕ) → cut (all ++ more) ≡ lines_then lines (cut (rest ++ more))
  pub behind : IsBehind all rest

-- Whatever bytes follow, lines of `all` have ended, each is answered in `out`, and the next one is refused.
pub record Refused (who : Responder) (all out : List ℕ) : Type 0 where
  pub lines : List (List ℕ)
  pub each : AnswersEach who lines out
  pub cut_is : (more : List ℕ) → cut (all ++ more) ≡ lines_then lines stopped

-- the same, with one line answered at least
pub record RefusedLater (who : Responder) (all out : List ℕ) : Type 0 where
  pub lines : List (List ℕ)
  pub some : lines ≢ []
  pub each : AnswersEach who lines out
  pub cut_is : (more : List ℕ) → cut (all ++ more) ≡ lines_then lines stopped

-- What a piece is answered and what is kept, where `all` is what was kept and the piece: the lines that have ended are
-- answered, and what follows the last line feed is kept. Where the next line is refused, the lines before it are answered.
abbrev pub Fed : Responder → List ℕ → Result (Vec ℕ Global) PortError → List ℕ → Option PortError → Type 0
Fed who all (Ok out) rest None = AnsweredUpTo who all rest out.items × (has_line rest ≡ false)
Fed who all (Ok out) rest (Some Line) = RefusedLater who all out.items
Fed who all (Err Line) rest (Some Line) = (more : List ℕ) → cut (all ++ more) ≡ stopped
Fed who all (Err Memory) rest (Some Memory) = Unit {0}
Fed who all _ rest _ = ⊥

-- The bytes that were kept are the last line, or none, and it is answered in `out`.
pub record AnsweredLast (who : Responder) (rest out : List ℕ) : Type 0 where
  pub lines : List (List ℕ)
  pub each : AnswersEach who lines out
  pub cut_is : cut rest ≡ lines_then lines ended

-- what the end of the stream is answered, where `rest` was kept
abbrev pub Ended : Responder → List ℕ → Result (Vec ℕ Global) PortError → Option PortError → Type 0
Ended who rest (Ok out) None = AnsweredLast who rest out.items
Ended who rest (Err Line) (Some Line) = cut rest ≡ stopped
Ended who rest (Err Memory) (Some Memory) = Unit {0}
Ended who rest _ _ = ⊥

-- what the lines in front of `all` are answered behind `before`, and what is left of both
abbrev pub Each : Responder → List ℕ → List ℕ → Result (Unit {0}) PortError → List ℕ → List ℕ → Type 0
Each who all before (Ok x) rest after = (out : List ℕ) × (after ≡ before ++ out) × AnsweredUpTo who all rest out × (has_line rest ≡ false)
Each who all before (Err Line) rest after = (out : List ℕ) × (after ≡ before ++ out) × Refused who all out
Each who all before (Err Memory) rest after = Unit {0}
Each who all before (Err Read) rest after = ⊥
Each who all before (Err Write) rest after = ⊥

-- what the last line, or none, is answered behind `before`
abbrev pub EachLast : Responder → List ℕ → List ℕ → Result (Unit {0}) PortError → List ℕ → Type 0
EachLast who rest before (Ok x) after = (out : List ℕ) × (after ≡ before ++ out) × AnsweredLast who rest out
EachLast who rest before (Err Line) after = cut rest ≡ stopped
EachLast who rest before (Err Memory) after = Unit {0}
EachLast who rest before (Err Read) after = ⊥
EachLast who rest before (Err Write) after = ⊥

-- the answers, or the fault where there are none
abbrev pub UnlessEmpty : Vec ℕ Global → Result (Vec ℕ Global) PortError → Type 0
UnlessEmpty answers (Ok out) = (out ≡ answers) × (answers.items ≢ [])
UnlessEmpty answers (Err Line) = answers.items ≡ []
UnlessEmpty answers (Err Memory) = ⊥
UnlessEmpty answers (Err Read) = ⊥
UnlessEmpty answers (Err Write) = ⊥
