-- What is seen of a group.
use Rattle.std.proofs.Common.{◌≡◌, ℕ, Option, None, Some, refl}
use Rattle.bh_base.specs.Runs.{View}
use Rattle.bh_in_force.specs.Properties.{in_force_found}
use Rattle.bh_in_force.specs.declared.properties.InForce.{InForce}
use Rattle.bh_lender.specs.Looks.{in_force_shown}

-- what is so of a group that is registered, and of one that is not
pub either_shown : (shown : Option View) (command : ℕ) (found : Option InForce)
    → ((v : View) → shown ≡ Some v → found ≡ in_force_found command v.present.props) → (shown ≡ None → found ≡ None)
    → found ≡ in_force_shown shown command
either_shown None command found known unknown = unknown refl
either_shown (Some v) command found known unknown = known v refl
