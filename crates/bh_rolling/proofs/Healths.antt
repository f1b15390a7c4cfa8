-- Health, by the counts of its kinds.
use Rattle.std.proofs.Common.{◌≡◌, ℕ}
use Rattle.bh_base.specs.declared.event.EventKind.{EventKind}
use Rattle.bh_base.specs.History.{health_by}

-- what is equal for each kind makes the same health
pub health_by_same : (f g : EventKind → ℕ) → ((k : EventKind) → f k ≡ g k) → health_by f ≡ health_by g
health_by_same f g same = λ j. health_by (λ k. same k j)
