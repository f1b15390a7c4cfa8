-- What came of a line.
use Rattle.std.specs.Prelude.{◌≡◌, ◌⊎◌, ℕ, List, ◌++◌, Result, Ok, Err}
use Rattle.std.specs.declared.alloc.AllocError.{AllocError}
use Rattle.bh_share.specs.declared.share_line.ShareLine.{ShareLine}
use Rattle.bh_desk.specs.declared.desk.Turn.{Turn}
use Rattle.bh_desk.specs.declared.desk.Turn.TheVariants as turn

module _ {S : Type 0} where
  -- one answer that the line may get stands behind the bytes
  abbrev pub IsPut : (S → ShareLine → List ℕ → S → Type 0) → S → ShareLine → List ℕ → S → List ℕ → Type 0
  IsPut may old line before new after = (one : List ℕ) × may old line one new × (after ≡ before ++ one)

  -- nothing was done, or the line was answered and the answer is lost
  abbrev pub IsLost : (S → ShareLine → List ℕ → S → Type 0) → S → ShareLine → S → Type 0
  IsLost may old line new = (new ≡ old) ⊎ ((one : List ℕ) × may old line one new)

  -- the line was answered, or it has to wait and nothing was done, or memory was refused
  abbrev pub IsTurn : (S → ShareLine → List ℕ → S → Type 0) → S → ShareLine → List ℕ → Result Turn AllocError → S → List ℕ → Type 0
  IsTurn may old line before (Ok turn.Answered) new after = IsPut may old line before new after
  IsTurn may old line before (Ok turn.Waits) new after = (new ≡ old) × (after ≡ before)
  IsTurn may old line before (Err refused) new after = IsLost may old line new × (after ≡ before)

  -- the same where it need not wait any more
  abbrev pub IsWaited : (S → ShareLine → List ℕ → S → Type 0) → S → ShareLine → List ℕ → Result (Unit {0}) AllocError → S → List ℕ → Type 0
  IsWaited may old line before (Ok x) new after = IsPut may old line before new after
  IsWaited may old line before (Err refused) new after = IsLost may old line new × (after ≡ before)
