-- There is an error exactly where a check refuses, and the first is its refusal.
use Rattle.std.proofs.Common.{◌≡◌, ℕ, List, [], ◌∷◌, ◌++◌, cond, codes, Bool, true, false, ◌&&◌, Option, Some, None, Result, Ok, Err, refl, sym, subst}
use Rattle.std.specs.Prelude.{if◌then◌else◌}
use Rattle.std.specs.List.{flat_map, find}
use Rattle.std.specs.Result.{result_and}
use Rattle.toml.specs.Data.{Data, string, integer, float, boolean, datetime, array, table, Members, no_members, member, get}
use Rattle.bh_props.specs.declared.error.SettingsError.{SettingsError}
use Rattle.bh_props.specs.declared.error.SettingsError.TheVariants as errors
use Rattle.bh_props.specs.declared.property.Property.{Property}
use Rattle.bh_props.specs.declared.value.Fault.{Fault}
use Rattle.bh_props.specs.declared.value.Fault.TheVariants.{WrongType, OutOfRange}
use Rattle.bh_props.specs.declared.subject.Subject.{Subject}
use Rattle.bh_props.specs.Tree.{all_members}
use Rattle.bh_props.specs.Subjects.{properties_of, subjects}
use Rattle.bh_props.specs.Commands.{Commands, commands_of}
use Rattle.bh_props.specs.InForce.{given}
use Rattle.bh_props.specs.SettingsView.{SettingsView}
use Rattle.bh_props.specs.Refusals.{Checked, is_at_fault, refusal, refused_at, first_at_fault, checked_values, checked_windows, has_whole_buckets, is_service, is_service_member, checked_service}
use Rattle.bh_props.specs.Settings.{settings_in_force, settings_of_subjects, settings_of_commands, settings_of_groups, settings_of_named}
use Rattle.bh_lint.specs.declared.finding.Finding.{Finding}
use Rattle.bh_lint.specs.declared.finding.Finding.TheVariants as findings
use Rattle.bh_lint.specs.declared.table.Table.TheVariants as tables
use Rattle.bh_lint.specs.Finding.{refusal_of, first_refusal, refused, shown, stands_at, words_at}
use Rattle.bh_lint.specs.Findings.{unknown_members, bad_value, bad_values_of, bad_values, bad_window, windows_behind, subject_errors, service_errors_at, service_errors, commands_or_none, command_errors, errors_with, errors_of_named}
use Rattle.bh_lint.specs.Refuses.{RefusesAs}

-- a refusal that is told alone is that refusal
refused-is : (e : SettingsError) → refusal_of (refused e) ≡ Some e
refused-is errors.Syntax = refl
refused-is errors.NoGroups = refl
refused-is (errors.BadName n) = refl
refused-is (errors.TwiceNamed n) = refl
refused-is errors.UnknownService = refl
refused-is (errors.BadCommand n) = refl
refused-is (errors.WrongType name p) = refl
refused-is (errors.OutOfRange name p) = refl
refused-is (errors.NotMultiple name) = refl
refused-is errors.Memory = refl

-- the first of some errors is the first of more behind them
first-of-both : (e : SettingsError) (some more : List Finding) → first_refusal some ≡ Some e → first_refusal (some ++ more) ≡ Some e
first-of-both e [] more is = absurd (cc)
first-of-both e (f ∷ rest) more is = is

-- two checks in a row, and their errors in a row
in-a-row : {T : Type 0} (some more : List Finding) (c : Checked) (r : Result T SettingsError) → RefusesAs some c → RefusesAs more r → RefusesAs (some ++ more) (result_and c r)
in-a-row some more (Ok u) r none later = subst (λ (front : List Finding). RefusesAs (front ++ more) r) (sym none) later
in-a-row some more (Err e) r first later = first-of-both e some more first

-- a check that gives nothing, and then what it lets pass
let-pass : {T : Type 0} (some : List Finding) (c : Checked) (x : T) → RefusesAs some c → RefusesAs some (result_and c (Ok x))
let-pass some (Ok u) x h = h
let-pass some (Err e) x h = h

and-assoc : {T : Type 0} (a b : Checked) (r : Result T SettingsError) → result_and (result_and a b) r ≡ result_and a (result_and b r)
and-assoc (Ok u) b r = refl
and-assoc (Err e) b r = refl

-- the properties of a name at fault, and the first of them
abbrev FindsAs : Fault → List ℕ → List Finding → Option Property → Type 0
FindsAs fault name some None = some ≡ []
FindsAs fault name some (Some p) = first_refusal some ≡ Some (refusal fault name p)

one-value : (fault : Fault) (d : Data) (name : List ℕ) (p : Property) (b : Bool) (rest : List Finding) (o : Option Property) → FindsAs fault name rest o
    → FindsAs fault name ((if b then findings.BadValue fault name p (stands_at (given p name d)) (words_at (given p name d)) ∷ [] else []) ++ rest) (cond b (Some p) o)
one-value fault d name p true rest o h = refl
one-value fault d name p false rest o h = h

values-found : (fault : Fault) (d : Data) (name : List ℕ) (some : List Property) → FindsAs fault name (flat_map (bad_value fault d name) some) (find (is_at_fault fault name d) some)
values-found fault d name [] = refl
values-found fault d name (p ∷ rest) =
    one-value fault d name p (is_at_fault fault name d p) (flat_map (bad_value fault d name) rest) (find (is_at_fault fault name d) rest)
    (values-found fault d name rest)

one-subject : (fault : Fault) (name : List ℕ) (some more : List Finding) (o : Option Property) (c : Checked) → FindsAs fault name some o → RefusesAs more c
    → RefusesAs (some ++ more) (refused_at fault name o c)
one-subject fault name some more None c none later = subst (λ (front : List Finding). RefusesAs (front ++ more) c) (sym none) later
one-subject fault name some more (Some p) c first later = first-of-both (refusal fault name p) some more first

values-refused : (fault : Fault) (d : Data) (some : List Subject) → RefusesAs (bad_values fault d some) (checked_values fault d some)
values-refused fault d [] = refl
values-refused fault d (s ∷ rest) =
    one-subject fault s.name (bad_values_of fault d s) (bad_values fault d rest) (first_at_fault fault d s) (checked_values fault d rest)
    (values-found fault d s.name (properties_of s.scope)) (values-refused fault d rest)

one-window : (name : List ℕ) (b : Bool) (rest : List Finding) (c : Checked) → RefusesAs rest c
    → RefusesAs ((if b then [] else findings.NotMultiple name ∷ []) ++ rest) (if b then c else Err (errors.NotMultiple name))
one-window name true rest c h = h
one-window name false rest c h = refl

windows-refused : (d : Data) (some : List Subject) → RefusesAs (flat_map (bad_window d) some) (checked_windows d some)
windows-refused d [] = refl
windows-refused d (s ∷ rest) = one-window s.name (has_whole_buckets s.name d) (flat_map (bad_window d) rest) (checked_windows d rest) (windows-refused d rest)

windows-behind : {T : Type 0} (d : Data) (some : List Subject) (values : List Finding) (c : Checked) (x : T) → RefusesAs values c
    → RefusesAs (windows_behind d some values) (result_and c (result_and (checked_windows d some) (Ok x)))
windows-behind d some values (Ok u) x none =
    subst (λ (before : List Finding). RefusesAs (windows_behind d some before) (result_and (checked_windows d some) (Ok x))) (sym none)
    (let-pass (flat_map (bad_window d) some) (checked_windows d some) x (windows-refused d some))
windows-behind d some [] (Err e) x first = absurd (cc)
windows-behind d some (f ∷ more) (Err e) x first = first

subjects-refused : (d : Data) (names : List (List ℕ)) (commands : Commands) (some : List Subject)
    → RefusesAs (subject_errors d some) (settings_of_subjects d names commands some)
unfolding subject_errors
subjects-refused d names commands some =
    let both = in-a-row (bad_values WrongType d some) (bad_values OutOfRange d some) (checked_values WrongType d some) (checked_values OutOfRange d some)
    (values-refused WrongType d some) (values-refused OutOfRange d some) in
    subst (λ (r : Result SettingsView SettingsError). RefusesAs (subject_errors d some) r)
    (and-assoc (checked_values WrongType d some) (checked_values OutOfRange d some) (result_and (checked_windows d some) (Ok (settings_in_force d names commands))))
    (windows-behind d some (bad_values WrongType d some ++ bad_values OutOfRange d some)
    (result_and (checked_values WrongType d some) (checked_values OutOfRange d some)) (settings_in_force d names commands) both)

commands-refused : (d : Data) (names : List (List ℕ)) (further : Result Commands SettingsError)
    → RefusesAs (command_errors further ++ subject_errors d (subjects names (commands_or_none further))) (settings_of_commands d names further)
commands-refused d names (Ok commands) = subjects-refused d names commands (subjects names commands)
commands-refused d names (Err e) = refused-is e

one-member : (key : List ℕ) (b all : Bool) (rest : List Finding) → RefusesAs rest (let c : Checked = if all then Ok tt else Err errors.UnknownService in c)
    → RefusesAs ((if b then [] else findings.Unknown tables.Service [] (shown key) ∷ []) ++ rest) (let c : Checked = if b && all then Ok tt else Err errors.UnknownService in c)
one-member key true all rest h = h
one-member key false all rest h = refl

members-refused : (names : List (List ℕ)) (ms : Members)
    → RefusesAs (unknown_members (is_service_member names) tables.Service [] ms) (let c : Checked = if all_members (is_service_member names) ms then Ok tt else Err errors.UnknownService in c)
members-refused names no_members = refl
members-refused names (member key d rest) =
    one-member key (is_service_member names key d) (all_members (is_service_member names) rest) (unknown_members (is_service_member names) tables.Service [] rest)
    (members-refused names rest)

service-refused : (names : List (List ℕ)) (o : Option Data) → RefusesAs (service_errors_at names o) (let c : Checked = if is_service names o then Ok tt else Err errors.UnknownService in c)
service-refused names None = refl
service-refused names (Some (string s)) = refl
service-refused names (Some (integer z)) = refl
service-refused names (Some (float x)) = refl
service-refused names (Some (boolean b)) = refl
service-refused names (Some (datetime t)) = refl
service-refused names (Some (array items)) = refl
service-refused names (Some (table ms)) = members-refused names ms

groups-refused : (d : Data) (names : List (List ℕ)) → RefusesAs (errors_with names (commands_of names d) d) (settings_of_groups d names)
unfolding service_errors
groups-refused d names =
    in-a-row (service_errors names d) (command_errors (commands_of names d) ++ subject_errors d (subjects names (commands_or_none (commands_of names d))))
    (checked_service names d) (settings_of_commands d names (commands_of names d))
    (service-refused names (get (codes "service") d)) (commands-refused d names (commands_of names d))

-- the errors of a file are what its check refuses
pub named-refused : (d : Data) (named : Result (List (List ℕ)) SettingsError) → RefusesAs (errors_of_named d named) (settings_of_named d named)
named-refused d (Ok names) = groups-refused d names
named-refused d (Err e) = refused-is e
