-- What the receipts of a call tell, whichever way it went.
use Rattle.std.specs.Prelude.{◌≡◌, ℕ, ◌≤◌, List, [], ◌∷◌, ◌++◌, Option, Some, None, Result, Ok, Err, length}
use Rattle.std.specs.List.{AllByRecursion}
use Rattle.bh_base.specs.declared.step.GroupId.{GroupId}
use Rattle.bh_base.specs.declared.step.FallbackEnd.{FallbackEnd}
use Rattle.bh_base.specs.declared.step.Op.TheVariants as op
use Rattle.bh_base.specs.declared.step.Request.{Request}
use Rattle.bh_base.specs.declared.step.RunEnd.{RunEnd}
use Rattle.bh_base.specs.declared.reply.Answer.{Answer}
use Rattle.bh_base.specs.declared.reply.CallError.{CallError}
use Rattle.bh_base.specs.declared.reply.CallError.TheVariants as error
use Rattle.bh_base.specs.declared.reply.Cause.{Cause}
use Rattle.bh_base.specs.declared.reply.Reply.{Reply}
use Rattle.bh_base.specs.declared.reply.Reply.TheVariants as reply
use Rattle.bh_journal.specs.declared.pass.Receipt.{Receipt}
use Rattle.bh_workers.specs.Receipts.{IsReceiptOf}
use Rattle.bh_workers.specs.Calls.{IsCall, IsNothing, Only}

-- the ticket that the reply to a Submit names
abbrev pub ticket_of : Reply → Option ℕ
ticket_of (reply.Queued serial) = Some serial
ticket_of (reply.Inline serial) = Some serial
ticket_of (reply.FallbackDue serial cause) = Some serial
ticket_of (reply.Joined serial) = Some serial
ticket_of answered = None

-- a Submit of the request, whose reply names the ticket
pub record SubmitsFor (moments : ℕ → Type 0) (g : GroupId) (request : Request) (serial : ℕ) (r : Receipt) : Type 0 where
  pub answered : Reply
  pub names : ticket_of answered ≡ Some serial
  pub submitted : IsReceiptOf moments g (op.Submit request) answered r

-- the first receipt is a Submit of the request, and the last a Collect of the ticket that its reply names, answered so
pub record CollectsItsTicket (moments : ℕ → Type 0) (g : GroupId) (request : Request) (answered : Reply) (made : List Receipt) : Type 0 where
  pub serial : ℕ
  pub first : Receipt
  pub between : List Receipt
  pub last : Receipt
  pub is : made ≡ first ∷ (between ++ last ∷ [])
  pub submit : SubmitsFor moments g request serial first
  pub collect : IsReceiptOf moments g (op.Collect serial) answered last

-- what the result says of the receipts
abbrev pub AreToldBy : (ℕ → Type 0) → GroupId → Request → Result Answer CallError → List Receipt → Type 0
AreToldBy moments g request (Ok answer) made = CollectsItsTicket moments g request (reply.Answered answer) made
AreToldBy moments g request (Err error.Taken) made = CollectsItsTicket moments g request reply.NoTicket made
AreToldBy moments g request (Err error.GroupFull) made = Only (IsReceiptOf moments g (op.Submit request) reply.GroupFull) made
AreToldBy moments g request (Err error.PassFull) made = IsNothing made
AreToldBy moments g request (Err error.NoCommand) made = IsNothing made
AreToldBy moments g request result made = Unit {0}

-- a step of the group at a moment that the clock names
abbrev pub IsStepAt : (ℕ → Type 0) → GroupId → Receipt → Type 0
IsStepAt moments g r = (r.step.group ≡ g) × moments r.step.now

-- a call adds at most five receipts, each of its group and at a moment that the clock names, and its result says of
-- them what it has to
pub record IsTold (moments : ℕ → Type 0) (g : GroupId) (request : Request) (result : Result Answer CallError) (made : List Receipt) : Type 0 where
  pub few : length made ≤ 5
  pub steps : AllByRecursion (IsStepAt moments g) made
  pub told : AreToldBy moments g request result made

abbrev pub CallLaw : (GroupId → ℕ → List ℕ → RunEnd → Type 0) → (GroupId → ℕ → Cause → List ℕ → FallbackEnd → Type 0) → (ℕ → Type 0) → Type 0
CallLaw ends fallback_ends moments =
    (g : GroupId) (request : Request) (result : Result Answer CallError) (made : List Receipt) → IsCall ends fallback_ends moments g request result made → IsTold moments g request result made
