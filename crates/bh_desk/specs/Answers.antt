-- What lines are answered, one after the other.
use Rattle.std.specs.Prelude.{◌≡◌, ◌⊎◌, ℕ, List, [], ◌∷◌, ◌++◌, Result, Ok, Err}
use Rattle.bh_faults.specs.declared.fault.Fault.{Fault}
use Rattle.bh_lines.specs.Names.{Names}
use Rattle.bh_replies.specs.FaultLine.{fault_line}
use Rattle.bh_share.specs.declared.share_line.ShareLine.{ShareLine}
use Rattle.bh_share.specs.ShareLine.{share_line}

-- who answers: the names of the groups and commands, and which answers a line may get where the connection has one thing,
-- and what it has then
pub record Responder (S : Type 0) : Type 1 where
  pub names : Names
  pub may : S → ShareLine → List ℕ → S → Type 0

module _ {S : Type 0} where
  -- one who answers so
  abbrev pub responder : Names → (S → ShareLine → List ℕ → S → Type 0) → Responder S
  responder names may = record { names = names; may = may }

  -- what a line that says this is answered: a faulty one by the line of its fault, with nothing done
  abbrev pub IsAnswer : (S → ShareLine → List ℕ → S → Type 0) → S → Result ShareLine Fault → List ℕ → S → Type 0
  IsAnswer may old (Err fault) out new = (new ≡ old) × (out ≡ fault_line fault)
  IsAnswer may old (Ok line) out new = may old line out new

  -- what a line is answered
  unfoldable pub Answers : Responder S → S → List ℕ → List ℕ → S → Type 0
  Answers who old bytes out new = IsAnswer who.may old (share_line who.names bytes) out new

  -- the bytes are one answer to each line, in order, and each is given where the connection has what those before left it
  abbrev pub AnswersEach : Responder S → S → List (List ℕ) → List ℕ → S → Type 0
  AnswersEach who old [] out new = (out ≡ []) × (new ≡ old)
  AnswersEach who old (bytes ∷ lines) out new =
      (one : List ℕ) × (others : List ℕ) × (mid : S) × Answers who old bytes one mid × AnswersEach who mid lines others new × (out ≡ one ++ others)

  -- nothing was done, or a line was answered and its answer is lost
  abbrev pub LosesOne : (S → ShareLine → List ℕ → S → Type 0) → S → S → Type 0
  LosesOne may old new = (new ≡ old) ⊎ ((line : ShareLine) × (one : List ℕ) × may old line one new)

  -- lines were answered one after the other, and perhaps one more whose answer is lost; nothing else was done
  abbrev pub HasAnsweredSome : Responder S → S → S → Type 0
  HasAnsweredSome who old new = (lines : List (List ℕ)) × (out : List ℕ) × (mid : S) × AnswersEach who old lines out mid × LosesOne who.may mid new
