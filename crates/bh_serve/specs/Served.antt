-- What a service behind a port may answer, and what it was asked.
use Rattle.std.specs.Prelude.{◌≡◌, ◌≢◌, ℕ, ◌<◌, true, List, Option, Some, None, Result, Err, if◌then◌else◌}
use Rattle.bh_base.specs.declared.props.Tuning.{Tuning}
use Rattle.bh_base.specs.declared.step.GroupId.{GroupId}
use Rattle.bh_base.specs.declared.step.Op.{Op}
use Rattle.bh_base.specs.declared.step.Request.{Request}
use Rattle.bh_base.specs.declared.step.RunEnd.{RunEnd}
use Rattle.bh_base.specs.declared.step.FallbackEnd.{FallbackEnd}
use Rattle.bh_base.specs.declared.step.Op.TheVariants as op
use Rattle.bh_base.specs.declared.reply.Answer.{Answer}
use Rattle.bh_base.specs.declared.reply.CallError.{CallError}
use Rattle.bh_base.specs.declared.reply.CallError.TheVariants as error
use Rattle.bh_base.specs.declared.reply.Cause.{Cause}
use Rattle.bh_base.specs.declared.reply.Reply.{Reply}
use Rattle.bh_base.specs.declared.reply.Reply.TheVariants as reply
use Rattle.bh_base.specs.Replies.{can_reply}
use Rattle.bh_journal.specs.declared.pass.Receipt.{Receipt}
use Rattle.bh_journal.specs.Passes.{PassView, blank}
use Rattle.bh_audit.specs.Service.{ServiceView}
use Rattle.bh_workers.specs.Calls.{CallAdds, IsCall}
use Rattle.bh_workers.specs.Receipts.{StepAdds}

-- a reply that the operation can get, and not that its command is missing
abbrev pub MayTell : Op → Reply → Type 0
MayTell o told = (can_reply o told ≡ true) × (told ≢ reply.NoCommand)

-- a reply that a Read of the group's command of the number can get: its own one, number 0, is not missing
abbrev pub MayShow : GroupId → ℕ → Reply → Type 0
MayShow group command told = (can_reply (op.Read command) told ≡ true) × (told ≡ reply.NoCommand → 0 < command)

-- a reply that a Totals of the group's command of the number can get
abbrev pub MayTotal : GroupId → ℕ → Reply → Type 0
MayTotal group command told = (can_reply (op.Totals command) told ≡ true) × (told ≡ reply.NoCommand → 0 < command)

-- a reply that a Tune of the group's command of the number can get
abbrev pub MayTune : GroupId → ℕ → Tuning → Reply → Type 0
MayTune group command tuning told = (can_reply (op.Tune command tuning) told ≡ true) × (told ≡ reply.NoCommand → 0 < command)

-- a reply that a Close can get
abbrev pub MayClose : GroupId → ℕ → Reply → Type 0
MayClose group context told = MayTell (op.Close context) told

-- an answer that steps of a call of the request could give, the runs and the fallbacks in it ending as the dependency may
abbrev pub MayAnswer : (GroupId → ℕ → List ℕ → RunEnd → Type 0) → (GroupId → ℕ → Cause → List ℕ → FallbackEnd → Type 0) → (ℕ → Type 0) → GroupId → Request → Result Answer CallError → Type 0
MayAnswer ends fallback_ends moments group request answer = (made : List Receipt) × IsCall ends fallback_ends moments group request answer made

-- a new pass of the group: it has room in an audited service alone
abbrev pub new_pass : ServiceView → GroupId → ℕ → PassView
new_pass service group room = blank group (if service.audited then room else 0)

-- a step of the group was made with a new pass, at a moment that the clock names, and was answered so; where memory for
-- the receipt of an audited service was refused, the answer is that there is no such group
abbrev pub IsStepped : (ℕ → Type 0) → ServiceView → GroupId → Op → Reply → Option PassView → Type 0
IsStepped moments service group o answer (Some p) = StepAdds moments service.audited (new_pass service group 1) o answer p
IsStepped moments service group o answer None = (answer ≡ reply.NoGroup) × (service.audited ≡ true)

-- a call of the request was made with a new pass, and was answered so; or memory for the receipts of an audited service
-- was refused
abbrev pub IsCalled : (GroupId → ℕ → List ℕ → RunEnd → Type 0) → (GroupId → ℕ → Cause → List ℕ → FallbackEnd → Type 0) → (ℕ → Type 0) → ServiceView → GroupId → Request → Result Answer CallError → Option PassView → Type 0
IsCalled ends fallback_ends moments service group request result (Some p) =
    CallAdds service.audited (new_pass service group 5) result p (IsCall ends fallback_ends moments group request result)
IsCalled ends fallback_ends moments service group request result None =
    (result ≡ Err error.PassFull) × (service.audited ≡ true)
