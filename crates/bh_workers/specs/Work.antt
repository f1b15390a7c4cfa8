-- What a worker adds to its pass.
use Rattle.std.specs.Prelude.{◌≡◌, ℕ, ◌<◌, Bool, true, false, List, [], ◌∷◌, ◌⊎◌}
use Rattle.bh_base.specs.declared.step.GroupId.{GroupId}
use Rattle.bh_base.specs.declared.step.RunEnd.{RunEnd}
use Rattle.bh_base.specs.declared.step.Op.TheVariants as op
use Rattle.bh_base.specs.declared.reply.Reply.TheVariants as reply
use Rattle.bh_journal.specs.declared.pass.Receipt.{Receipt}
use Rattle.bh_journal.specs.Passes.{PassView}
use Rattle.bh_workers.specs.Receipts.{IsReceiptOf, IsRunEnd}

-- a Start by which the ticket was assigned with its command and its argument
pub record IsAssigned (moments : ℕ → Type 0) (g : GroupId) (r : Receipt) : Type 0 where
  pub serial : ℕ
  pub command : ℕ
  pub arg : List ℕ
  pub start : IsReceiptOf moments g op.Start (reply.Assigned serial command arg) r

module _ (ends : GroupId → ℕ → List ℕ → RunEnd → Type 0) (moments : ℕ → Type 0) where
  -- a Start, and the end of the run that it assigned
  pub record IsRunWithEnd (g : GroupId) (r e : Receipt) : Type 0 where
    pub assigned : IsAssigned moments g r
    pub end : IsRunEnd ends moments g assigned.serial assigned.command assigned.arg e

  -- runs one after another, of which only the last may lack its end
  abbrev pub IsWork : GroupId → List Receipt → Type 0
  IsWork g [] = Unit {0}
  IsWork g (r ∷ []) = IsAssigned moments g r
  IsWork g (r ∷ e ∷ rs) = IsRunWithEnd g r e × IsWork g rs

  -- one turn of a worker: a run with its end, after which it goes on; or else, at most, a Start
  abbrev pub IsTurn : GroupId → Bool → List Receipt → Type 0
  IsTurn g true (r ∷ e ∷ []) = IsRunWithEnd g r e
  IsTurn g true rs = ⊥
  IsTurn g false [] = Unit {0}
  IsTurn g false (r ∷ []) = IsAssigned moments g r
  IsTurn g false rs = ⊥

  -- the end of the run of a ticket, or none where it was refused
  abbrev pub IsEnding : GroupId → ℕ → ℕ → List ℕ → Bool → List Receipt → Type 0
  IsEnding g serial command arg true (e ∷ []) = IsRunEnd ends moments g serial command arg e
  IsEnding g serial command arg true rs = ⊥
  IsEnding g serial command arg false rs = rs ≡ []

-- why a worker ends: its pass is marked, or too full for one more run
abbrev pub HasReasonToEnd : Bool → PassView → Type 0
HasReasonToEnd audited p =
    (p.marks.stopped ≡ true) ⊎ (p.marks.worn ≡ true) ⊎ (p.marks.no_group ≡ true) ⊎ ((audited ≡ true) × (p.room < 2))
