-- What the calls that C makes do.
use Rattle.std.specs.Prelude.{◌≡◌, ℕ, Option, Some, None, Result, Ok, IsErr, IsSomeAnd}
use Rattle.bh_port.specs.Course.{new_course}
use Rattle.bh_port.specs.Script.{GroupsShow}
use Rattle.bh_props.specs.SettingsView.{SettingsView}
use Rattle.bh_props.specs.Shown.{settings_view}
use Rattle.bh_props.specs.declared.error.SettingsError.{SettingsError}
use Rattle.bh_c.specs.declared.outcome.Outcome.{Outcome}
use Rattle.bh_c.specs.declared.outcome.Outcome.TheVariants.{Done, Refused, NoMemory, NotOpen}
use Rattle.bh_c.specs.declared.service.Service.{Service}
use Rattle.bh_c.specs.Outcomes.{code_of}

-- the number is that of an outcome for which this holds
abbrev pub Answers : ℕ → (Outcome → Type 0) → Type 0
Answers code Holds = (outcome : Outcome) × (code ≡ code_of outcome) × Holds outcome

-- no service was held, and none is; the call was told so, and what it could write to is as it was
pub record IsNotOpen (is : Option Service) (outcome : Outcome) (Untouched : Type 0) : Type 0 where
  pub told : outcome ≡ NotOpen
  pub empty : is ≡ None
  pub untouched : Untouched

-- a service was held, and one of the same settings is held now, to which the call did this; or none was
abbrev pub Works : Option Service → Option Service → Outcome → Type 0 → (Service → Service → Type 0) → Type 0
Works (Some was) (Some is) outcome Untouched Does = (is.settings ≡ was.settings) × Does was is
Works (Some was) None outcome Untouched Does = ⊥
Works None is outcome Untouched Does = IsNotOpen is outcome Untouched

-- a service was held, and is held now as it was, and the call told this of it; or none was
abbrev pub Keeps : Option Service → Option Service → Outcome → Type 0 → (Service → Type 0) → Type 0
Keeps (Some was) is outcome Untouched Tells = (is ≡ Some was) × Tells was
Keeps None is outcome Untouched Tells = IsNotOpen is outcome Untouched

-- a service was held and closed, or none was
abbrev pub CloseTold : Option Service → Outcome → Type 0
CloseTold (Some was) outcome = outcome ≡ Done
CloseTold None outcome = outcome ≡ NotOpen

-- the settings that were read are those of a service of new groups
pub record IsOpened (said : Result SettingsView SettingsError) (service : Service) : Type 0 where
  pub settings : said ≡ Ok (settings_view service.settings)
  pub groups : GroupsShow (settings_view service.settings) service.groups (new_course (settings_view service.settings))

-- a service of the settings was opened; or they are refused or memory was, and what was held is as it was
abbrev pub OpenTold : Result SettingsView SettingsError → Option Service → Option Service → Outcome → Type 0
OpenTold said was is Done = IsSomeAnd is (IsOpened said)
OpenTold said was is Refused = IsErr said × (is ≡ was)
OpenTold said was is NoMemory = is ≡ was
OpenTold said was is _ = ⊥
