-- What is done in one turn.
use Rattle.std.specs.Prelude.{◌≡◌, ◌<◌, ℕ, false, List, [], ◌∷◌, map, filter, Option, None, Some}
use Rattle.bh_base.specs.declared.reply.Reply.{Reply}
use Rattle.bh_base.specs.declared.reply.Reply.TheVariants as replies
use Rattle.bh_base.specs.declared.step.FallbackEnd.TheVariants as fallback
use Rattle.bh_base.specs.declared.step.GroupId.{GroupId}
use Rattle.bh_base.specs.declared.step.Op.{Op}
use Rattle.bh_base.specs.declared.step.Op.TheVariants as op
use Rattle.bh_base.specs.declared.step.Step.{Step}
use Rattle.bh_audit.specs.Calls.{is_due}
use Rattle.bh_lease.specs.declared.lease.Lease.{Lease}
use Rattle.bh_lease.specs.declared.lease.Part.{Part}
use Rattle.bh_lease.specs.declared.lease.Part.TheVariants as part
use Rattle.bh_lease.specs.declared.lease.Within.{Within}
use Rattle.bh_lease.specs.Lease.{has}
use Rattle.bh_lease.specs.Leases.{LeasesView}
use Rattle.bh_lender.specs.declared.lender.Left.{Left}
use Rattle.bh_lender.specs.Recorded.{IsMade, RecordedView}
use Rattle.bh_lender.specs.Steps.{AreSteps, Made, step_at, steps_of}
use Rattle.bh_lender.specs.Settling.{Settles, with_holder}

-- all groups with the account and the log of their steps, and the holders that are left with the service, by their tickets
pub record LenderView : Type 0 where
  pub recorded : RecordedView
  pub left : List Left

-- the step was made, and then what it lets holders that are left do
abbrev pub DoesStep : Step → Reply → LenderView → LenderView → Type 0
DoesStep step reply old new =
    (mid : RecordedView) × (chunks : List (List Made)) × IsMade old.recorded step reply mid × Settles step.now mid old.left chunks new.recorded new.left

-- the operation that ends the part of the ticket: of a connection that is gone a run has failed, and so has a fallback
abbrev pub end_of : Part → ℕ → Op
end_of part.Holder serial = op.Collect serial
end_of part.Run serial = op.Fail serial false
end_of part.Fallback serial = op.FallbackDone serial fallback.Failure

-- the step that ends this part of the lease
abbrev pub end_step : ℕ → Part → Lease → Step
end_step now p l = step_at l.group now (end_of p l.serial)

-- the step that ends a request context
abbrev pub close_step : ℕ → Within → Step
close_step now w = step_at w.group now (op.Close w.context)

-- with the holders of the leases too
abbrev pub left_with : List Lease → List Left → List Left
left_with [] left = left
left_with (l ∷ ls) left = left_with ls (with_holder l.group l.serial left)

-- all that a connection has was given back: each run has failed, then each fallback, then each request context that it was
-- within was closed, and each holder is left with the service, which has collected at once for those that need not wait
pub record IsGivenBack (now : ℕ) (had : LeasesView) (old new : LenderView) : Type 0 where
  pub runs : List Made
  pub fallbacks : List Made
  pub closes : List Made
  pub after_runs : RecordedView
  pub after_fallbacks : RecordedView
  pub after_closes : RecordedView
  pub chunks : List (List Made)
  -- each run is ended by one step, in the order of the leases, and each fallback by one step then
  pub runs_are : steps_of runs ≡ map (end_step now part.Run) (filter (has part.Run) had.listed)
  pub fallbacks_are : steps_of fallbacks ≡ map (end_step now part.Fallback) (filter (has part.Fallback) had.listed)
  -- and each context is closed by one step, in the order in which they were entered; no other context is
  pub closes_are : steps_of closes ≡ map (close_step now) had.contexts
  pub ends_runs : AreSteps old.recorded runs after_runs
  pub ends_fallbacks : AreSteps after_runs fallbacks after_fallbacks
  pub ends_contexts : AreSteps after_fallbacks closes after_closes
  -- each holder is left with those that were left, and whoever of these need not wait has collected
  pub settles : Settles now after_closes (left_with (filter (has part.Holder) had.listed) old.left) chunks new.recorded new.left

-- an Expire was made where a ticket of the group was due, by which so many timed out; or none was due, and nothing was done
abbrev pub IsExpired : GroupId → ℕ → Option ℕ → LenderView → LenderView → Type 0
IsExpired group now (Some number) old new = (0 < number) × DoesStep (step_at group now op.Expire) (replies.Expired number) old new
IsExpired group now None old new = (new ≡ old) × (is_due old.recorded.groups group now ≡ false)
