-- What is known of a service that connections share, by its type.
use Rattle.std.specs.Prelude.{◌≡◌, ℕ, List, [], ◌∷◌, Option}
use Rattle.bh_audit.specs.Books.{BookView}
use Rattle.bh_core.specs.CoreView.{CoreView}
use Rattle.bh_core.specs.Step.{IsStep}
use Rattle.bh_lender.specs.StepLog.{StepLogView}
use Rattle.bh_lender.specs.Steps.{Made}

-- with which groups such a service may be opened, which moments its clock may answer, and what is so once it was stopped
pub record Facts : Type 1 where
  pub opened : CoreView → Type 0
  pub moments : ℕ → Type 0
  pub stopped : Type 0

-- these steps and no others took all groups from old to new, in this order
abbrev pub AreStepped : CoreView → List Made → CoreView → Type 0
AreStepped old [] new = new ≡ old
AreStepped old (m ∷ ms) new = (mid : CoreView) × IsStep old m.0 m.1 mid × AreStepped mid ms new

-- the groups are what steps made of some with which such a service may be opened
abbrev pub IsOf : Facts → CoreView → Type 0
IsOf facts groups = ∥ ((first : CoreView) × (made : List Made) × facts.opened first × AreStepped first made groups) ∥₁

-- the groups of a service with their account, and the log of their steps, where one is kept
pub record OpeningView : Type 0 where
  pub book : BookView
  pub log : Option StepLogView
