-- What a log and an account have of the steps that were made.
use Rattle.std.specs.Prelude.{◌≡◌, ◌≤◌, ℕ, true, false, List, ◌∷◌, length, option_map}
use Rattle.bh_base.specs.declared.reply.Reply.{Reply}
use Rattle.bh_base.specs.declared.step.Step.{Step}
use Rattle.bh_lease.specs.Leases.{LeasesView}
use Rattle.bh_audit.specs.Books.{IsAudited}
use Rattle.bh_lender.specs.Account.{AreEntered}
use Rattle.bh_lender.specs.Lender.{DoesStep, IsGivenBack, LenderView}
use Rattle.bh_lender.specs.Recorded.{RecordedView}
use Rattle.bh_lender.specs.StepLog.{IsFrontLogged, StepLogView, logged_each}
use Rattle.bh_lender.specs.Steps.{AreSteps, Made, steps_of}

-- the steps that took the groups from old to new were put into the log, where one is kept: each of them, once, and in the
-- order in which they were made
abbrev pub AreLogged : Type 0
AreLogged =
    (old : RecordedView) (made : List Made) (new : RecordedView)
    → AreSteps old made new → new.log ≡ option_map (logged_each (steps_of made)) old.log

-- where journals are kept and agree with their groups, the steps that took the groups from old to new are in them then; and
-- where none are kept, the journals stay as they were
abbrev pub AreInAccount : Type 0
AreInAccount =
    ((old : RecordedView) (made : List Made) (new : RecordedView)
    → AreSteps old made new → old.audited ≡ true → IsAudited old.groups old.journals → AreEntered old made new)
    × ((old : RecordedView) (made : List Made) (new : RecordedView)
    → AreSteps old made new → old.audited ≡ false → (new.journals ≡ old.journals) × (new.audited ≡ false))

-- the steps of one turn are one list: first the one that was asked for, and then those for holders that are left; or those
-- by which all was given back
abbrev pub AreOneList : Type 0
AreOneList =
    ((step : Step) (reply : Reply) (old new : LenderView)
    → DoesStep step reply old new → (made : List Made) × AreSteps old.recorded ((step, reply) ∷ made) new.recorded)
    × ((now : ℕ) (had : LeasesView) (old new : LenderView)
    → IsGivenBack now had old new → (made : List Made) × AreSteps old.recorded made new.recorded)

-- A log that has lost none has of the steps that are put into it those in front, behind what it had and in their order: as
-- many as there is room for, and it has lost one where these are not all. One that has lost one stays as it is.
abbrev pub IsFront : Type 0
IsFront =
    ((steps : List Step) (l : StepLogView) → length l.steps ≤ l.limit → l.lost ≡ false → IsFrontLogged steps l)
    × ((steps : List Step) (l : StepLogView) → l.lost ≡ true → logged_each steps l ≡ l)
