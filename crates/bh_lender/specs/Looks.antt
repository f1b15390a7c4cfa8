-- What is seen of a group, for which no step is made.
use Rattle.std.specs.Prelude.{ℕ, Option, None, Some}
use Rattle.bh_base.specs.Runs.{View}
use Rattle.bh_core.specs.CoreView.{CoreView, view_at}
use Rattle.bh_in_force.specs.Properties.{in_force_found}
use Rattle.bh_in_force.specs.declared.properties.InForce.{InForce}

-- what is in force of the command of the number, by what its group shows
abbrev pub in_force_shown : Option View → ℕ → Option InForce
in_force_shown None command = None
in_force_shown (Some v) command = in_force_found command v.present.props

-- what is in force of a group's command: nothing where the group is not registered, or lacks the command
abbrev pub in_force_at : CoreView → ℕ → ℕ → Option InForce
in_force_at groups group command = in_force_shown (view_at groups group) command
