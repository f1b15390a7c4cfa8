-- What stands at a name that nothing looks up changes no settings, and at any other it can.
use Rattle.std.specs.Prelude.{◌≡◌, ℕ, List, [], ◌∷◌, ◌++◌, true, false, Result, Ok}
use Rattle.std.specs.List.{Any}
use Rattle.toml.specs.Data.{Data}
use Rattle.bh_props.specs.declared.error.SettingsError.{SettingsError}
use Rattle.bh_props.specs.Tree.{look_up}
use Rattle.bh_props.specs.Names.{names_of}
use Rattle.bh_props.specs.Commands.{commands_of}
use Rattle.bh_props.specs.declared.property.Property.{Property}
use Rattle.bh_props.specs.declared.subject.Subject.{Subject}
use Rattle.bh_props.specs.InForce.{in_force}
use Rattle.bh_props.specs.Subjects.{subjects, properties_of}
use Rattle.bh_props.specs.SettingsView.{SettingsView}
use Rattle.bh_props.specs.Settings.{settings_of_named}
use Rattle.bh_lint.specs.declared.table.Table.{Table}
use Rattle.bh_lint.specs.declared.table.Table.TheVariants as tables
use Rattle.bh_lint.specs.Table.{table_path}
use Rattle.bh_lint.specs.LookedUp.{is_on, is_looked_up}
use Rattle.bh_lint.specs.Findings.{commands_or_none}

-- two files have the same at every path that neither goes through the place nor ends on the way to it
abbrev pub AreAlikeBeside : List (List ℕ) → Data → Data → Type 0
AreAlikeBeside place d e = (path : List (List ℕ)) → is_on place path ≡ false → is_on path place ≡ false → look_up path d ≡ look_up path e

-- the settings of a parsed file, or its first refusal
abbrev pub settings_of_file : Data → Result SettingsView SettingsError
settings_of_file d = settings_of_named d (names_of d)

-- in a file with these groups, where a name of a table beside `service` is on no path at which a value in force is looked up,
-- the settings are the same whatever stands there
abbrev pub UnusedChangesNothing : Type 0
UnusedChangesNothing =
    (d e : Data) (names : List (List ℕ)) (t : Table) (name key : List ℕ) → names_of d ≡ Ok names → ¬ (t ≡ tables.Service)
    → is_looked_up (subjects names (commands_or_none (commands_of names d))) (table_path t name ++ key ∷ []) ≡ false
    → AreAlikeBeside (table_path t name ++ key ∷ []) d e → settings_of_file d ≡ settings_of_file e

-- two files that are alike beside the place have two values in force of the property for the name
abbrev pub CanChange : List (List ℕ) → List ℕ → Property → Type 0
CanChange place name p = (d : Data) × (e : Data) × AreAlikeBeside place d e × ¬ (in_force p name d ≡ in_force p name e)

-- what stands at a place that is looked up can change a value in force of one of the subjects
abbrev pub UsedCanChange : Type 0
UsedCanChange =
    (some : List Subject) (place : List (List ℕ)) → is_looked_up some place ≡ true → Any (λ s. Any (CanChange place s.name) (properties_of s.scope)) some
