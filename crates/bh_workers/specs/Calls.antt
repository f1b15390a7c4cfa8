-- What a call of a request adds to its pass.
use Rattle.std.specs.Prelude.{◌≡◌, ℕ, Bool, true, List, [], ◌∷◌, ◌++◌, ◌⊎◌, Result, Ok, Err}
use Rattle.bh_base.specs.declared.step.GroupId.{GroupId}
use Rattle.bh_base.specs.declared.step.Op.TheVariants as op
use Rattle.bh_base.specs.declared.step.FallbackEnd.{FallbackEnd}
use Rattle.bh_base.specs.declared.step.Request.{Request}
use Rattle.bh_base.specs.declared.step.RunEnd.{RunEnd}
use Rattle.bh_base.specs.declared.reply.Answer.{Answer}
use Rattle.bh_base.specs.declared.reply.CallError.{CallError}
use Rattle.bh_base.specs.declared.reply.CallError.TheVariants as error
use Rattle.bh_base.specs.declared.reply.Cause.{Cause}
use Rattle.bh_base.specs.declared.reply.Reply.{Reply}
use Rattle.bh_base.specs.declared.reply.Reply.TheVariants as reply
use Rattle.bh_journal.specs.declared.pass.Marks.{Marks}
use Rattle.bh_journal.specs.declared.pass.Receipt.{Receipt}
use Rattle.bh_journal.specs.Passes.{PassView}
use Rattle.bh_audit.specs.Calls.{CanBeMissing}
use Rattle.bh_workers.specs.Receipts.{Gains, IsReceiptOf, IsRunEnd}

-- the result of a call of which this is the last reply: where the ticket has no answer, the service was stopped, or a fallback
-- is to be run once more
abbrev pub result_of : Reply → Result Answer CallError
result_of (reply.Answered answer) = Ok answer
result_of reply.NoTicket = Err error.Taken
result_of reply.GroupFull = Err error.GroupFull
result_of reply.Worn = Err error.Worn
result_of reply.NoGroup = Err error.NoGroup
result_of reply.NoCommand = Err error.NoCommand
result_of r = Err error.Stopped

-- nothing is added
abbrev pub IsNothing : List Receipt → Type 0
IsNothing made = made ≡ []

-- such a receipt first, and such ones after it
abbrev pub Then : (Receipt → Type 0) → (List Receipt → Type 0) → List Receipt → Type 0
Then First Rest [] = ⊥
Then First Rest (r ∷ rs) = First r × Rest rs

-- such a receipt and no other
abbrev pub Only : (Receipt → Type 0) → List Receipt → Type 0
Only First = Then First IsNothing

-- a step was refused, as the group is worn or not registered, which adds nothing
abbrev pub IsRefused : Result Answer CallError → List Receipt → Type 0
IsRefused (Err error.Worn) made = IsNothing made
IsRefused (Err error.NoGroup) made = IsNothing made
IsRefused result made = ⊥

-- a receipt by which the ticket of the serial needs no worker and no run by the caller
abbrev pub IsWaiting : (ℕ → Type 0) → GroupId → Request → ℕ → Receipt → Type 0
IsWaiting moments g request serial r =
    IsReceiptOf moments g (op.Submit request) (reply.Queued serial) r
    ⊎ IsReceiptOf moments g (op.Submit request) (reply.Joined serial) r
    ⊎ ((cause : Cause) × IsReceiptOf moments g (op.Submit request) (reply.FallbackDue serial cause) r)

-- the end of the fallback of a ticket: one that the dependency names for the group, the request's command, the cause and
-- the request's argument
pub record IsFallbackEnd (fallback_ends : GroupId → ℕ → Cause → List ℕ → FallbackEnd → Type 0) (moments : ℕ → Type 0) (g : GroupId) (serial : ℕ) (cause : Cause) (request : Request) (r : Receipt) : Type 0 where
  pub end : FallbackEnd
  pub answered : Reply
  pub possible : fallback_ends g request.command cause request.arg end
  pub told : IsReceiptOf moments g (op.FallbackDone serial end) answered r

-- the ticket was collected, with no fallback to be run
abbrev pub IsCollected : (ℕ → Type 0) → GroupId → ℕ → Result Answer CallError → List Receipt → Type 0
IsCollected moments g serial (Ok answer) made = Only (IsReceiptOf moments g (op.Collect serial) (reply.Answered answer)) made
IsCollected moments g serial (Err error.Taken) made = Only (IsReceiptOf moments g (op.Collect serial) reply.NoTicket) made
IsCollected moments g serial (Err error.Stopped) made = Only (IsReceiptOf moments g (op.Collect serial) reply.Pending) made
IsCollected moments g serial result made = IsRefused result made

-- the ticket was collected for the last time; where a fallback is to be run once more, the call gives up
abbrev pub IsCollectedLast : (ℕ → Type 0) → GroupId → ℕ → Result Answer CallError → List Receipt → Type 0
IsCollectedLast moments g serial result made =
    IsCollected moments g serial result made
    ⊎ ((result ≡ Err error.Stopped) × ((cause : Cause) × Only (IsReceiptOf moments g (op.Collect serial) (reply.RunFallback cause)) made))

module _ (fallback_ends : GroupId → ℕ → Cause → List ℕ → FallbackEnd → Type 0) (moments : ℕ → Type 0) where
  -- the fallback of the cause was run, and its end told; then the ticket was collected for the last time
  abbrev pub IsFallenBack : GroupId → ℕ → Cause → Request → Result Answer CallError → List Receipt → Type 0
  IsFallenBack g serial cause request result made =
      IsRefused result made
      ⊎ Then (IsFallbackEnd fallback_ends moments g serial cause request) (IsCollectedLast moments g serial result) made

  -- the ticket was collected, and its fallback was run where the Collect said so
  abbrev pub IsSettled : GroupId → ℕ → Request → Result Answer CallError → List Receipt → Type 0
  IsSettled g serial request result made =
      IsCollected moments g serial result made
      ⊎ ((cause : Cause) × Then (IsReceiptOf moments g (op.Collect serial) (reply.RunFallback cause)) (IsFallenBack g serial cause request result) made)

module _ (ends : GroupId → ℕ → List ℕ → RunEnd → Type 0) (fallback_ends : GroupId → ℕ → Cause → List ℕ → FallbackEnd → Type 0) (moments : ℕ → Type 0) where
  -- the caller ran the ticket and told the end; then the ticket was settled
  abbrev pub IsRunInline : GroupId → ℕ → Request → Result Answer CallError → List Receipt → Type 0
  IsRunInline g serial request result made =
      IsRefused result made
      ⊎ Then (IsRunEnd ends moments g serial request.command request.arg) (IsSettled fallback_ends moments g serial request result) made

  -- a Submit of the request, and then what its reply asks for
  abbrev pub IsCallMade : GroupId → Request → Result Answer CallError → List Receipt → Type 0
  IsCallMade g request result made =
      IsRefused result made
      ⊎ ((result ≡ Err error.GroupFull) × Only (IsReceiptOf moments g (op.Submit request) reply.GroupFull) made)
      ⊎ ((serial : ℕ) × Then (IsWaiting moments g request serial) (IsSettled fallback_ends moments g serial request result) made)
      ⊎ ((serial : ℕ) × Then (IsReceiptOf moments g (op.Submit request) (reply.Inline serial)) (IsRunInline g serial request result) made)

  -- the receipts of a call that gave this result: none where the pass was too full for it, and none where its Submit was
  -- refused as the group lacks the command
  abbrev pub IsCall : GroupId → Request → Result Answer CallError → List Receipt → Type 0
  IsCall g request (Err error.PassFull) made = IsNothing made
  IsCall g request (Err error.NoCommand) made = IsNothing made × CanBeMissing (op.Submit request)
  IsCall g request result made = IsCallMade g request result made

-- the last receipt says that a fallback is to be run
pub record EndsInFallback (made : List Receipt) : Type 0 where
  pub before : List Receipt
  pub last : Receipt
  pub is : made ≡ before ++ last ∷ []
  pub cause : Cause
  pub reply : last.reply ≡ reply.RunFallback cause

-- what a call that gave this result does to the marks of its pass
abbrev pub MarksAre : Result Answer CallError → List Receipt → Marks → Marks → Type 0
MarksAre (Err error.Worn) made m m' = m' ≡ record m { worn = true }
MarksAre (Err error.NoGroup) made m m' = m' ≡ record m { no_group = true }
MarksAre (Err error.Stopped) made m m' = (m' ≡ record m { stopped = true }) ⊎ ((m' ≡ m) × EndsInFallback made)
MarksAre result made m m' = m' ≡ m

-- a call that gave this result added receipts that are so, and changed the marks as the result says
pub record CallAdds (audited : Bool) (p : PassView) (result : Result Answer CallError) (q : PassView) (IsSo : List Receipt → Type 0) : Type 0 where
  pub made : List Receipt
  pub gains : Gains audited p q made
  pub marks : MarksAre result made p.marks q.marks
  pub is : IsSo made
