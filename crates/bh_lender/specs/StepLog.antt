-- The steps that were made, for whoever keeps a record of them.
use Rattle.std.specs.Prelude.{◌≡◌, ℕ, ◌+◌, ◌-◌, Bool, true, List, [], ◌∷◌, ◌++◌, length, take, nat_lt, if◌then◌else◌}
use Rattle.bh_base.specs.declared.step.Step.{Step}

-- the steps, how many there is room for, and whether one found no room
pub record StepLogView : Type 0 where
  pub steps : List Step
  pub limit : ℕ
  pub lost : Bool

-- one step more stands behind the others, unless one found no room before or this one finds none
abbrev pub logged : Step → StepLogView → StepLogView
logged step l =
    if l.lost then l else (if nat_lt (length l.steps) l.limit then record l { steps = l.steps ++ step ∷ [] } else record l { lost = true })

-- each of the steps in turn
abbrev pub logged_each : List Step → StepLogView → StepLogView
logged_each [] l = l
logged_each (step ∷ steps) l = logged_each steps (logged step l)

-- Of steps that are put into a log which has lost none, those in front stand behind what it had, in their order: as many as
-- there is room for. Where these are not all, the log has lost one.
abbrev pub IsFrontLogged : List Step → StepLogView → Type 0
IsFrontLogged steps l =
    logged_each steps l ≡ record l { steps = l.steps ++ take (l.limit - length l.steps) steps; lost = nat_lt l.limit (length l.steps + length steps) }
