-- What a check refuses, and the errors that are told.
use Rattle.std.specs.Prelude.{◌≡◌, List, [], Some, Result, Ok, Err}
use Rattle.bh_props.specs.declared.error.SettingsError.{SettingsError}
use Rattle.bh_lint.specs.declared.finding.Finding.{Finding}
use Rattle.bh_lint.specs.Finding.{first_refusal}

-- there is an error exactly where the check refuses, and the first is its refusal
abbrev pub RefusesAs : {T : Type 0} → List Finding → Result T SettingsError → Type 0
RefusesAs errors (Ok x) = errors ≡ []
RefusesAs errors (Err e) = first_refusal errors ≡ Some e
