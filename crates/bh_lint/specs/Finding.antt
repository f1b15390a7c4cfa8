-- What is amiss, and what a finding tells of a file.
use Rattle.std.specs.Prelude.{ℕ, nat_le, List, [], ◌∷◌, length, codes, Bool, not, ◌&&◌, ◌==◌, if◌then◌else◌, Option, Some, None}
use Rattle.std.specs.List.{list_all}
use Rattle.std.specs.Fmt.{signed_decimal}
use Rattle.toml.specs.Data.{Data, string, integer, float, boolean, datetime, array, table}
use Rattle.bh_props.specs.declared.error.SettingsError.{SettingsError}
use Rattle.bh_props.specs.declared.error.SettingsError.TheVariants as errors
use Rattle.bh_props.specs.declared.value.Fault.TheVariants.{WrongType, OutOfRange}
use Rattle.bh_props.specs.Refusals.{refusal}
use Rattle.bh_lint.specs.declared.finding.Stands.{Stands}
use Rattle.bh_lint.specs.declared.finding.Stands.TheVariants as stands
use Rattle.bh_lint.specs.declared.finding.Refusal.{Refusal}
use Rattle.bh_lint.specs.declared.finding.Refusal.TheVariants as refusals
use Rattle.bh_lint.specs.declared.finding.Finding.{Finding}
use Rattle.bh_lint.specs.declared.finding.Finding.TheVariants as findings
use Rattle.bh_lint.specs.declared.table.Table.TheVariants as tables

-- no control character
abbrev pub is_shown_byte : ℕ → Bool
is_shown_byte b = nat_le 32 b && not (b == 127)

-- a text that is told as it is
abbrev pub is_plain : List ℕ → Bool
is_plain s = nat_le (length s) 64 && list_all is_shown_byte s

-- a text of the file, as it is told
abbrev pub shown : List ℕ → List ℕ
shown s = if is_plain s then s else codes "(not shown)"

-- what a value is
abbrev pub stands_in : Data → Stands
stands_in (string s) = stands.Text
stands_in (integer z) = stands.Plain
stands_in (float x) = stands.Float
stands_in (boolean b) = stands.Plain
stands_in (datetime t) = stands.Datetime
stands_in (array items) = stands.Array
stands_in (table ms) = stands.Table

-- what stands where there may be a value
abbrev pub stands_at : Option Data → Stands
stands_at (Some d) = stands_in d
stands_at None = stands.Nothing

-- the words of a plain value or a text
abbrev pub words_in : Data → List ℕ
words_in (string s) = shown s
words_in (integer z) = signed_decimal z
words_in (boolean b) = if b then codes "true" else codes "false"
words_in _ = []

-- the words of what stands where there may be a value
abbrev pub words_at : Option Data → List ℕ
words_at (Some d) = words_in d
words_at None = []

-- the refusal of a check
abbrev pub settings_error : Refusal → SettingsError
settings_error refusals.Syntax = errors.Syntax
settings_error refusals.NoGroups = errors.NoGroups
settings_error (refusals.BadName n) = errors.BadName n
settings_error (refusals.TwiceNamed n) = errors.TwiceNamed n
settings_error refusals.UnknownService = errors.UnknownService
settings_error (refusals.BadCommand n) = errors.BadCommand n
settings_error refusals.Memory = errors.Memory

-- the refusal that an error is; a warning is none
abbrev pub refusal_of : Finding → Option SettingsError
refusal_of (findings.Refused r) = Some (settings_error r)
refusal_of (findings.BadValue fault name p s words) = Some (refusal fault name p)
refusal_of (findings.NotMultiple name) = Some (errors.NotMultiple name)
refusal_of (findings.Unknown tables.Service name key) = Some errors.UnknownService
refusal_of (findings.Unknown _ name key) = None
refusal_of (findings.Doubtful name doubt) = None

-- the refusal that the first of the errors is
abbrev pub first_refusal : List Finding → Option SettingsError
first_refusal [] = None
first_refusal (f ∷ more) = refusal_of f

-- the error that a refusal is, with nothing more to tell
abbrev pub refused : SettingsError → Finding
refused errors.Syntax = findings.Refused refusals.Syntax
refused errors.NoGroups = findings.Refused refusals.NoGroups
refused (errors.BadName n) = findings.Refused (refusals.BadName n)
refused (errors.TwiceNamed n) = findings.Refused (refusals.TwiceNamed n)
refused errors.UnknownService = findings.Refused refusals.UnknownService
refused (errors.BadCommand n) = findings.Refused (refusals.BadCommand n)
refused (errors.WrongType name p) = findings.BadValue WrongType name p stands.Nothing []
refused (errors.OutOfRange name p) = findings.BadValue OutOfRange name p stands.Nothing []
refused (errors.NotMultiple name) = findings.NotMultiple name
refused errors.Memory = findings.Refused refusals.Memory
