-- What contracts see of settings.
use Rattle.std.specs.Prelude.{ℕ, List, Option}
use Rattle.bh_base.specs.Props.{GroupProps}

-- the groups in listed order, each with its properties, the limit of audited steps, and, in the order of names, from each
-- further command's name to its group's place, from 0, and its number there
pub record SettingsView : Type 0 where
  pub groups : List (List ℕ × GroupProps)
  pub audit_steps : Option ℕ
  pub commands : List (List ℕ × (ℕ × ℕ))
