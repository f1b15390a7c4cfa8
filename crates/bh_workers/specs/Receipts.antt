-- Receipts of single operations, and what is added to a pass.
use Rattle.std.specs.Prelude.{◌≡◌, ℕ, ◌+◌, ◌≤◌, Bool, true, false, List, [], ◌∷◌, ◌++◌, length}
use Rattle.bh_base.specs.declared.step.GroupId.{GroupId}
use Rattle.bh_base.specs.declared.step.Op.{Op}
use Rattle.bh_base.specs.declared.step.Op.TheVariants as op
use Rattle.bh_base.specs.declared.step.RunEnd.{RunEnd}
use Rattle.bh_base.specs.declared.step.RunEnd.TheVariants as run_end
use Rattle.bh_base.specs.declared.reply.Reply.{Reply}
use Rattle.bh_journal.specs.declared.pass.Receipt.{Receipt}
use Rattle.bh_journal.specs.Passes.{Adds, PassView}
use Rattle.bh_audit.specs.Calls.{step_at}

-- the receipt of an operation in the group, at a moment that the clock names, answered so
pub record IsReceiptOf (moments : ℕ → Type 0) (g : GroupId) (o : Op) (answer : Reply) (r : Receipt) : Type 0 where
  pub moment : ℕ
  pub named : moments moment
  pub step : r.step ≡ step_at g moment o
  pub reply : r.reply ≡ answer

-- the operation that tells how a run ended
abbrev pub end_op : ℕ → RunEnd → Op
end_op serial (run_end.Success body) = op.Finish serial body
end_op serial run_end.Failure = op.Fail serial false
end_op serial run_end.BadRequest = op.Fail serial true

-- the end of the run of a ticket: one that the dependency names for the group, the command and the argument
pub record IsRunEnd (ends : GroupId → ℕ → List ℕ → RunEnd → Type 0) (moments : ℕ → Type 0) (g : GroupId) (serial command : ℕ) (arg : List ℕ) (r : Receipt) : Type 0 where
  pub end : RunEnd
  pub answered : Reply
  pub possible : ends g command arg end
  pub told : IsReceiptOf moments g (end_op serial end) answered r

-- what a service keeps of the receipts of the steps made: all of them where it is audited, else none
abbrev pub kept : Bool → List Receipt → List Receipt
kept true rs = rs
kept false rs = []

-- steps were made with a pass, and it has gained the receipts that the service keeps of them
pub record Gains (audited : Bool) (p q : PassView) (made : List Receipt) : Type 0 where
  pub group : q.group ≡ p.group
  pub receipts : q.receipts ≡ p.receipts ++ kept audited made
  pub room : p.room ≤ q.room + length (kept audited made)

-- a step of the pass's own group was made, at a moment that the clock names, and was answered so
abbrev pub StepAdds : (ℕ → Type 0) → Bool → PassView → Op → Reply → PassView → Type 0
StepAdds moments audited p o answer q = (moment : ℕ) × moments moment × Adds audited p (step_at p.group moment o) answer q

-- such a step that was not refused: it has its receipt, and no mark has changed
pub record StepTaken (moments : ℕ → Type 0) (audited : Bool) (p : PassView) (o : Op) (answer : Reply) (q : PassView) : Type 0 where
  pub receipt : Receipt
  pub gains : Gains audited p q (receipt ∷ [])
  pub is : IsReceiptOf moments p.group o answer receipt
  pub marks : q.marks ≡ p.marks
