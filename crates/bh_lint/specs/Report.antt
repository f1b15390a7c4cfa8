-- What is told of the bytes of a settings file.
use Rattle.std.specs.Prelude.{ℕ, List, [], ◌∷◌, ◌++◌, length, Bool, not, ◌==◌, ◌&&◌, ◌||◌, if◌then◌else◌}
use Rattle.std.specs.Str.{is_utf8}
use Rattle.bh_props.specs.declared.error.SettingsError.TheVariants.{Syntax}
use Rattle.bh_lint.specs.declared.finding.Finding.{Finding}
use Rattle.bh_lint.specs.Finding.{refused}
use Rattle.bh_lint.specs.Findings.{errors_of, warnings_of}

-- the errors in bytes; those that are not UTF-8 are no TOML
unfoldable pub errors_in : List ℕ → List Finding
errors_in bytes = if is_utf8 bytes then errors_of bytes else refused Syntax ∷ []

-- and the warnings
unfoldable pub warnings_in : List ℕ → List Finding
warnings_in bytes = if is_utf8 bytes then warnings_of bytes else []

-- all that is amiss, the errors first
abbrev pub findings_in : List ℕ → List Finding
findings_in bytes = errors_in bytes ++ warnings_in bytes

-- there are some
abbrev pub are_some : List Finding → Bool
are_some some = not (length some == 0)

-- the status: 1 with an error, and where warnings are denied with a warning
abbrev pub lint_status : Bool → List ℕ → ℕ
lint_status deny bytes = if are_some (errors_in bytes) || (deny && are_some (warnings_in bytes)) then 1 else 0
