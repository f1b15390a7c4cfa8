-- The checks of a file whose groups are known.
use Rattle.std.specs.Prelude.{ℕ, List, [], ◌∷◌, codes, Bool, true, false, ◌&&◌, ◌||◌, ◌==◌, ◌%◌, if◌then◌else◌, Option, Some, None, Result, Ok, Err}
use Rattle.std.specs.List.{find, list_any}
use Rattle.std.specs.Str.{bytes_eq}
use Rattle.toml.specs.Data.{Data, table, get}
use Rattle.bh_props.specs.declared.property.Property.{Property}
use Rattle.bh_props.specs.declared.property.Property.TheVariants as properties
use Rattle.bh_props.specs.declared.value.PropertyValue.{PropertyValue}
use Rattle.bh_props.specs.declared.value.PropertyValue.TheVariants as values
use Rattle.bh_props.specs.declared.value.Fault.{Fault}
use Rattle.bh_props.specs.declared.value.Fault.TheVariants.{WrongType, OutOfRange}
use Rattle.bh_props.specs.declared.error.SettingsError.{SettingsError}
use Rattle.bh_props.specs.declared.error.SettingsError.TheVariants as refusals
use Rattle.bh_props.specs.Tree.{all_members}
use Rattle.bh_props.specs.declared.subject.Subject.{Subject}
use Rattle.bh_props.specs.Subjects.{properties_of}
use Rattle.bh_props.specs.InForce.{in_force}

-- a check: passed, or the first refusal
abbrev pub Checked : Type 0
Checked = Result (Unit {0}) SettingsError

-- `default` or the name of a group
abbrev pub is_key : List (List ℕ) → List ℕ → Bool
is_key names key = bytes_eq key (codes "default") || list_any (λ name. bytes_eq name key) names

-- a table whose keys are `default` or names of groups
abbrev pub has_keys : List (List ℕ) → Data → Bool
has_keys names (table ms) = all_members (λ key d. is_key names key) ms
has_keys names _ = false

-- a table
abbrev pub is_table : Data → Bool
is_table (table ms) = true
is_table _ = false

-- one that may stand under `service`
abbrev pub is_service_member : List (List ℕ) → List ℕ → Data → Bool
is_service_member names key d =
    bytes_eq key (codes "groups") || bytes_eq key (codes "auditSteps") || (bytes_eq key (codes "slots") && has_keys names d)
    || (bytes_eq key (codes "command") && is_table d)

-- a table of such members
abbrev pub is_service : List (List ℕ) → Option Data → Bool
is_service names (Some (table ms)) = all_members (is_service_member names) ms
is_service names _ = false

-- nothing else stands under `service`
abbrev pub checked_service : List (List ℕ) → Data → Checked
checked_service names d = if is_service names (get (codes "service") d) then Ok tt else Err refusals.UnknownService

-- the two faults are one
abbrev pub same_fault : Fault → Fault → Bool
same_fault WrongType WrongType = true
same_fault OutOfRange OutOfRange = true
same_fault _ _ = false

-- the value is refused for this fault
abbrev pub has_fault : Fault → Result PropertyValue Fault → Bool
has_fault fault (Ok value) = false
has_fault fault (Err found) = same_fault found fault

-- the value in force of the property has this fault
abbrev pub is_at_fault : Fault → List ℕ → Data → Property → Bool
is_at_fault fault name d p = has_fault fault (in_force p name d)

-- the refusal of a property of a group or a command
abbrev pub refusal : Fault → List ℕ → Property → SettingsError
refusal WrongType name p = refusals.WrongType name p
refusal OutOfRange name p = refusals.OutOfRange name p

-- the refusal of the property at fault, if there is one, else what comes later
abbrev pub refused_at : Fault → List ℕ → Option Property → Checked → Checked
refused_at fault name (Some p) later = Err (refusal fault name p)
refused_at fault name None later = later

-- the first of its properties whose value in force has this fault
abbrev pub first_at_fault : Fault → Data → Subject → Option Property
first_at_fault fault d s = find (is_at_fault fault s.name d) (properties_of s.scope)

-- no value in force has this fault: the subjects in their order, of each its properties in the table's
abbrev pub checked_values : Fault → Data → List Subject → Checked
checked_values fault d [] = Ok tt
checked_values fault d (s ∷ rest) = refused_at fault s.name (first_at_fault fault d s) (checked_values fault d rest)

-- a number in force; there is one wherever the property is one of numbers and has no fault
abbrev pub number : Result PropertyValue Fault → ℕ
number (Ok (values.Number n)) = n
number _ = 0

-- the window in force is cut into buckets of equal length
abbrev pub has_whole_buckets : List ℕ → Data → Bool
has_whole_buckets name d = number (in_force properties.Window name d) % number (in_force properties.Buckets name d) == 0

-- each subject's window is
abbrev pub checked_windows : Data → List Subject → Checked
checked_windows d [] = Ok tt
checked_windows d (s ∷ rest) = if has_whole_buckets s.name d then checked_windows d rest else Err (refusals.NotMultiple s.name)
