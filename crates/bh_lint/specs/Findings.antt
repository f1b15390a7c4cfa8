-- All that is amiss in a settings file.
use Rattle.std.specs.Prelude.{ℕ, List, [], ◌∷◌, ◌++◌, map, codes, Bool, if◌then◌else◌, Option, Some, None, Result, Ok, Err}
use Rattle.std.specs.List.{flat_map}
use Rattle.toml.specs.Data.{Data, get, table, Members, no_members, member}
use Rattle.toml.specs.Parse.{parse_document}
use Rattle.bh_props.specs.declared.error.SettingsError.{SettingsError}
use Rattle.bh_props.specs.declared.error.SettingsError.TheVariants as refusals
use Rattle.bh_props.specs.declared.property.Property.{Property}
use Rattle.bh_props.specs.declared.value.Fault.{Fault}
use Rattle.bh_props.specs.declared.value.Fault.TheVariants.{WrongType, OutOfRange}
use Rattle.bh_props.specs.declared.subject.Subject.{Subject}
use Rattle.bh_props.specs.declared.subject.Scope.{Scope}
use Rattle.bh_props.specs.declared.subject.Scope.TheVariants as scopes
use Rattle.bh_props.specs.Tree.{look_up}
use Rattle.bh_props.specs.Names.{names_of}
use Rattle.bh_props.specs.Commands.{Commands, commands_of}
use Rattle.bh_props.specs.Subjects.{a_group, properties_of, subjects}
use Rattle.bh_props.specs.InForce.{given}
use Rattle.bh_props.specs.Refusals.{is_at_fault, is_service_member, has_whole_buckets}
use Rattle.bh_lint.specs.declared.finding.Finding.{Finding}
use Rattle.bh_lint.specs.declared.finding.Finding.TheVariants as findings
use Rattle.bh_lint.specs.declared.table.Table.{Table}
use Rattle.bh_lint.specs.declared.table.Table.TheVariants as tables
use Rattle.bh_lint.specs.declared.table.Part.{Part}
use Rattle.bh_lint.specs.declared.table.Part.TheVariants as parts
use Rattle.bh_lint.specs.declared.doubt.Doubt.{Doubt}
use Rattle.bh_lint.specs.Finding.{shown, stands_at, words_at, refused}
use Rattle.bh_lint.specs.Table.{Test, table_path}
use Rattle.bh_lint.specs.LookedUp.{is_looked_up}
use Rattle.bh_lint.specs.Doubt.{doubts_of, is_doubtful}

-- Names that nothing looks up.

-- a value in force of one of the subjects is looked up through the member
abbrev pub is_used : List Subject → Test
is_used some t name key d = is_looked_up some (table_path t name ++ key ∷ [])

-- a member of the table, where the test of its key and of what stands there fails
abbrev pub unknown_member : (List ℕ → Data → Bool) → Table → List ℕ → List ℕ → Data → List Finding
unknown_member known t name key d = if known key d then [] else findings.Unknown t name (shown key) ∷ []

-- those of some members
abbrev pub unknown_members : (List ℕ → Data → Bool) → Table → List ℕ → Members → List Finding
unknown_members known t name no_members = []
unknown_members known t name (member key d rest) = unknown_member known t name key d ++ unknown_members known t name rest

-- those of what stands at the table's place, if it is a table
abbrev pub unknown_at : Test → Table → List ℕ → Option Data → List Finding
unknown_at known t name (Some (table ms)) = unknown_members (known t name) t name ms
unknown_at known t name _ = []

-- those of a table
abbrev pub unknown_in : Test → Data → List ℕ → Table → List Finding
unknown_in known d name t = unknown_at known t name (look_up (table_path t name) d)

-- all parts of a command's properties
abbrev pub all_parts : List Part
all_parts =
    parts.Whole ∷ parts.Execution ∷ parts.Isolation ∷ parts.Thread ∷ parts.Semaphore ∷ parts.Timeout ∷ parts.Fallback
    ∷ parts.FallbackIsolation ∷ parts.FallbackSemaphore ∷ parts.Circuit ∷ parts.Metrics ∷ parts.Rolling ∷ parts.Health ∷ parts.Cache ∷ []

-- the table of a pool: a further command has none
abbrev pub pool_tables : Scope → List Table
pool_tables scopes.Group = tables.Pool ∷ []
pool_tables scopes.Command = []

-- the tables of a group or a further command
abbrev pub tables_of : Scope → List Table
tables_of scope = map (λ part. tables.Command part) all_parts ++ pool_tables scope

-- the tables of the file itself, beside `service`
unfoldable pub file_tables : List Table
file_tables = tables.Root ∷ tables.Hystrix ∷ tables.Commands ∷ tables.Pools ∷ []

-- what all groups have where they have nothing of their own
unfoldable pub by_default : Subject
by_default = a_group (codes "default")

-- the names in the tables of a group, a further command or `default` of which the test fails
abbrev pub unknown_of : Test → Data → Subject → List Finding
unknown_of known d s = flat_map (unknown_in known d s.name) (tables_of s.scope)

-- those in all tables, beside `service`
unfoldable pub unknown_names : Test → Data → List Subject → List Finding
unknown_names known d some =
    flat_map (unknown_in known d []) file_tables ++ unknown_of known d by_default ++ flat_map (unknown_of known d) some

-- Values that are refused.

-- a property, where its value in force has the fault
abbrev pub bad_value : Fault → Data → List ℕ → Property → List Finding
bad_value fault d name p = if is_at_fault fault name d p then findings.BadValue fault name p (stands_at (given p name d)) (words_at (given p name d)) ∷ [] else []

-- those of a subject
abbrev pub bad_values_of : Fault → Data → Subject → List Finding
bad_values_of fault d s = flat_map (bad_value fault d s.name) (properties_of s.scope)

-- those of all subjects
abbrev pub bad_values : Fault → Data → List Subject → List Finding
bad_values fault d some = flat_map (bad_values_of fault d) some

-- a window that is not a multiple of its buckets
abbrev pub bad_window : Data → Subject → List Finding
bad_window d s = if has_whole_buckets s.name d then [] else findings.NotMultiple s.name ∷ []

-- the windows are looked at where no value is refused
abbrev pub windows_behind : Data → List Subject → List Finding → List Finding
windows_behind d some [] = flat_map (bad_window d) some
windows_behind d some (f ∷ more) = f ∷ more

-- what is refused of the subjects
unfoldable pub subject_errors : Data → List Subject → List Finding
subject_errors d some = windows_behind d some (bad_values WrongType d some ++ bad_values OutOfRange d some)

-- All.

-- what stands under `service`, where it may not; it is a table
abbrev pub service_errors_at : List (List ℕ) → Option Data → List Finding
service_errors_at names (Some (table ms)) = unknown_members (is_service_member names) tables.Service [] ms
service_errors_at names _ = refused refusals.UnknownService ∷ []

-- the same of a file
unfoldable pub service_errors : List (List ℕ) → Data → List Finding
service_errors names d = service_errors_at names (get (codes "service") d)

-- the further commands; none where they are refused
abbrev pub commands_or_none : Result Commands SettingsError → Commands
commands_or_none (Ok commands) = commands
commands_or_none (Err e) = []

-- what is refused of the further commands
abbrev pub command_errors : Result Commands SettingsError → List Finding
command_errors (Ok commands) = []
command_errors (Err e) = refused e ∷ []

-- the errors of a file with these groups, in the order of the checks
abbrev pub errors_with : List (List ℕ) → Result Commands SettingsError → Data → List Finding
errors_with names further d =
    service_errors names d ++ (command_errors further ++ subject_errors d (subjects names (commands_or_none further)))

-- the errors, unless the names of the groups are refused
abbrev pub errors_of_named : Data → Result (List (List ℕ)) SettingsError → List Finding
errors_of_named d (Ok names) = errors_with names (commands_of names d) d
errors_of_named d (Err e) = refused e ∷ []

-- the errors of a document's members
abbrev pub errors_of_tree : Option Members → List Finding
errors_of_tree (Some ms) = errors_of_named (table ms) (names_of (table ms))
errors_of_tree None = refused refusals.Syntax ∷ []

-- the errors of a text
abbrev pub errors_of : List ℕ → List Finding
errors_of text = errors_of_tree (parse_document text)

-- a doubt about a name, where it is told
abbrev pub doubt_at : Data → List ℕ → Doubt → List Finding
doubt_at d name doubt = if is_doubtful d name doubt then findings.Doubtful name doubt ∷ [] else []

-- those of a subject
abbrev pub doubts_at : Data → Subject → List Finding
doubts_at d s = flat_map (doubt_at d s.name) (doubts_of s.scope)

-- those of `default` and the subjects
unfoldable pub doubts_in : Data → List Subject → List Finding
doubts_in d some = doubts_at d by_default ++ flat_map (doubts_at d) some

-- the warnings of a file with these subjects: the names through which none of their values in force is looked up, and the doubts
abbrev pub warnings_of_subjects : Data → List Subject → List Finding
warnings_of_subjects d some = unknown_names (is_used some) d some ++ doubts_in d some

-- the warnings of a file with these groups and further commands
abbrev pub warnings_with : List (List ℕ) → Commands → Data → List Finding
warnings_with names commands d = warnings_of_subjects d (subjects names commands)

-- the warnings, unless the names of the groups are refused
abbrev pub warnings_of_named : Data → Result (List (List ℕ)) SettingsError → List Finding
warnings_of_named d (Ok names) = warnings_with names (commands_or_none (commands_of names d)) d
warnings_of_named d (Err e) = []

-- the warnings of a document's members
abbrev pub warnings_of_tree : Option Members → List Finding
warnings_of_tree (Some ms) = warnings_of_named (table ms) (names_of (table ms))
warnings_of_tree None = []

-- the warnings of a text
abbrev pub warnings_of : List ℕ → List Finding
warnings_of text = warnings_of_tree (parse_document text)
