-- What one Collect of a call adds to its pass, and what comes before and after it.
use Rattle.std.specs.Prelude.{◌≡◌, ◌≢◌, ℕ, Bool, List}
use Rattle.bh_base.specs.declared.step.FallbackEnd.{FallbackEnd}
use Rattle.bh_base.specs.declared.step.GroupId.{GroupId}
use Rattle.bh_base.specs.declared.step.Op.{Op}
use Rattle.bh_base.specs.declared.step.Op.TheVariants as op
use Rattle.bh_base.specs.declared.step.Request.{Request}
use Rattle.bh_base.specs.declared.reply.Cause.{Cause}
use Rattle.bh_base.specs.declared.reply.Reply.{Reply}
use Rattle.bh_base.specs.declared.reply.Reply.TheVariants as reply
use Rattle.bh_journal.specs.Passes.{PassView}
use Rattle.bh_audit.specs.Calls.{AddsProgress, step_at}
use Rattle.bh_audit.specs.declared.next.Progress.{Progress}
use Rattle.bh_audit.specs.declared.next.Progress.TheVariants as progress
use Rattle.bh_workers.specs.Receipts.{StepTaken}
use Rattle.bh_workers.specs.Calls.{CallAdds, IsCollected, IsCollectedLast, IsFallenBack, result_of}

-- a Collect of the ticket was made, and answered so
pub record IsCollectMade (moments : ℕ → Type 0) (audited : Bool) (p : PassView) (serial : ℕ) (answer : Reply) (q : PassView) : Type 0 where
  -- the fallback is to be run
  pub due : (cause : Cause) → answer ≡ reply.RunFallback cause → StepTaken moments audited p (op.Collect serial) (reply.RunFallback cause) q
  -- else the call is over
  pub over : ((cause : Cause) → answer ≢ reply.RunFallback cause) → CallAdds audited p (result_of answer) q (IsCollected moments p.group serial (result_of answer))
  -- or it was the last one, and the call is over whatever the answer
  pub last : CallAdds audited p (result_of answer) q (IsCollectedLast moments p.group serial (result_of answer))

-- a step of the pass's own group was made at a moment that the clock names, and a Collect of the ticket behind it, as far as
-- they came; the answer is that to the last of them
abbrev pub ProgressAdds : (ℕ → Type 0) → Bool → PassView → Op → ℕ → Progress → Reply → PassView → Type 0
ProgressAdds moments audited p o serial told answer q =
    (moment : ℕ) × moments moment × AddsProgress moments audited p (step_at p.group moment o) serial told answer q

-- how many receipts that adds at most
abbrev pub receipts_of : Progress → ℕ
receipts_of progress.Refused = 0
receipts_of progress.Stepped = 1
receipts_of progress.Collected = 2

-- behind a Collect that was answered so: where the answer says that a fallback is to be run, it was run, and else nothing was
-- done
pub record IsFallbackRun (fallback_ends : GroupId → ℕ → Cause → List ℕ → FallbackEnd → Type 0) (moments : ℕ → Type 0) (audited : Bool) (p : PassView) (serial : ℕ) (request : Request) (told answer : Reply) (q : PassView) : Type 0 where
  pub due : (cause : Cause) → told ≡ reply.RunFallback cause → CallAdds audited p (result_of answer) q (IsFallenBack fallback_ends moments p.group serial cause request (result_of answer))
  pub same_pass : ((cause : Cause) → told ≢ reply.RunFallback cause) → q ≡ p
  pub same_answer : ((cause : Cause) → told ≢ reply.RunFallback cause) → answer ≡ told
