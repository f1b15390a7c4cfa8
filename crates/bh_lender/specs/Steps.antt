-- Steps one after another, each with its reply.
use Rattle.std.specs.Prelude.{◌≡◌, ℕ, List, [], ◌∷◌, map}
use Rattle.bh_base.specs.declared.reply.Reply.{Reply}
use Rattle.bh_base.specs.declared.step.GroupId.{GroupId}
use Rattle.bh_base.specs.declared.step.Op.{Op}
use Rattle.bh_base.specs.declared.step.Step.{Step}
use Rattle.bh_lender.specs.Recorded.{IsMade, RecordedView}

-- a step that was made, and its reply
abbrev pub Made : Type 0
Made = Step × Reply

-- the step of the group at the moment
abbrev pub step_at : GroupId → ℕ → Op → Step
step_at group now o = record { group = group; now = now; op = o }

-- these steps and no others took the groups from old to new, in this order, and so they stand in the log and the account
abbrev pub AreSteps : RecordedView → List Made → RecordedView → Type 0
AreSteps old [] new = new ≡ old
AreSteps old (m ∷ ms) new = (mid : RecordedView) × IsMade old m.0 m.1 mid × AreSteps mid ms new

-- what was asked for
abbrev pub steps_of : List Made → List Step
steps_of made = map (λ (m : Made). m.0) made
