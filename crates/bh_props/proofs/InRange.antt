-- Settings that nothing refuses have their fields in range.
use Rattle.std.proofs.Common.{◌≡◌, ◌==◌, ℕ, ℤ, pos, negsuc, nat_le, zero, suc, ◌%◌, ◌<◌, ◌≤◌, ◌+◌, List, [], ◌∷◌, ◌++◌, length, map, take, drop, get_or, Bool, true, false, ◌&&◌, Option, Some, None, Result, Ok, Err, IfSome, All, refl, sym, true≢false, lit<, lit≤, ◌*◌, ◌/◌, ◌^◌, arith}
use Rattle.std.proofs.lemmas.Bool.{leb-true, eqb-true}
use Rattle.std.proofs.lemmas.List.{length-map}
use Rattle.std.proofs.lemmas.List.Elements.{All-from_recursion}
use Rattle.std.specs.List.{AllByRecursion, find, flat_map}
use Rattle.toml.specs.Data.{Data, string, integer, float, boolean, datetime, array, table}
use Rattle.bh_base.specs.Commands.{each_from}
use Rattle.bh_base.specs.Ranges.{IsCommandInRange, IsInRange, IsQueueLength}
use Rattle.bh_props.specs.declared.error.SettingsError.TheVariants as refusals
use Rattle.bh_props.specs.declared.property.Property.{Property}
use Rattle.bh_props.specs.declared.property.Property.TheVariants as properties
use Rattle.bh_props.specs.declared.value.Kind.{Kind}
use Rattle.bh_props.specs.declared.value.Kind.TheVariants as kinds
use Rattle.bh_props.specs.declared.value.PropertyValue.{PropertyValue}
use Rattle.bh_props.specs.declared.value.Fault.{Fault}
use Rattle.bh_props.specs.declared.value.Fault.TheVariants.{WrongType, OutOfRange}
use Rattle.bh_props.specs.declared.subject.Subject.{Subject}
use Rattle.bh_props.specs.Table.{row, all}
use Rattle.bh_props.specs.Commands.{Commands, commands_in}
use Rattle.bh_props.specs.Subjects.{of_command, properties_of, a_command, subjects_at, subjects}
use Rattle.bh_props.specs.InForce.{given, within, queue_size, read_as, read_given, in_force}
use Rattle.bh_props.specs.Refusals.{has_fault, is_at_fault, first_at_fault, refused_at, number, has_whole_buckets, checked_values, checked_windows}
use Rattle.bh_props.specs.Settings.{IsAuditLimit, optional_number, command_in_force, props_in_force, group_in_force}

-- what is read as one of a kind is in its range
abbrev Accepted : Kind → Result PropertyValue Fault → Type 0
Accepted (kinds.Number least most) r = (least ≤ number r) × (number r ≤ most)
Accepted kinds.QueueSize r = IsQueueLength (optional_number r)
Accepted _ r = Unit {0}

both : (a b : Bool) → (a && b) ≡ true → (a ≡ true) × (b ≡ true)
both true b h = (refl, h)
both false b h = absurd (true≢false (sym h))

within-accepted : (least most : ℕ) (z : ℤ) (v : PropertyValue) → within least most z ≡ Ok v → (least ≤ number (within least most z)) × (number (within least most z) ≤ most)
within-accepted least most (negsuc n) v h = cc
within-accepted least most (pos n) v h = by (nat_le least n && nat_le n most) refl
  where
    by : (b : Bool) → (nat_le least n && nat_le n most) ≡ b → (least ≤ number (within least most (pos n))) × (number (within least most (pos n)) ≤ most)
    by true e = let (low, high) = both (nat_le least n) (nat_le n most) e in rw e (leb-true least n low, leb-true n most high)
    by false e = let bad : Err OutOfRange ≡ Ok v = rw e at h in cc

number-accepted : (least most : ℕ) (x : Data) (v : PropertyValue) → read_as (kinds.Number least most) x ≡ Ok v → Accepted (kinds.Number least most) (read_as (kinds.Number least most) x)
number-accepted least most (integer z) v h = within-accepted least most z v h
number-accepted least most (string s) v h = cc
number-accepted least most (float f) v h = cc
number-accepted least most (boolean b) v h = cc
number-accepted least most (datetime t) v h = cc
number-accepted least most (array xs) v h = cc
number-accepted least most (table ms) v h = cc

queue_size-accepted : (z : ℤ) → IsQueueLength (optional_number (queue_size z))
queue_size-accepted (negsuc n) = by (n == 0) refl
  where
    by : (b : Bool) → (n == 0) ≡ b → IsQueueLength (optional_number (queue_size (negsuc n)))
    by true e = rw e tt
    by false e = rw e tt
queue_size-accepted (pos n) = by (n == 0) refl
  where
    inside : (b : Bool) → (nat_le 1 n && nat_le n 4294967295) ≡ b → IsQueueLength (optional_number (within 1 4294967295 (pos n)))
    inside true e = let (low, high) = both (nat_le 1 n) (nat_le n 4294967295) e in rw e (leb-true 1 n low, let most : n ≤ 4294967295 = leb-true n 4294967295 high in omega arith)
    inside false e = rw e tt

    by : (b : Bool) → (n == 0) ≡ b → IsQueueLength (optional_number (queue_size (pos n)))
    by true e = rw e tt
    by false e = rw e (inside (nat_le 1 n && nat_le n 4294967295) refl)

queue-accepted : (x : Data) → IsQueueLength (optional_number (read_as kinds.QueueSize x))
queue-accepted (integer z) = queue_size-accepted z
queue-accepted (string s) = tt
queue-accepted (float f) = tt
queue-accepted (boolean b) = tt
queue-accepted (datetime t) = tt
queue-accepted (array xs) = tt
queue-accepted (table ms) = tt

read_as-accepted : (k : Kind) (x : Data) (v : PropertyValue) → read_as k x ≡ Ok v → Accepted k (read_as k x)
read_as-accepted (kinds.Number least most) x v h = number-accepted least most x v h
read_as-accepted kinds.QueueSize x v h = queue-accepted x
read_as-accepted kinds.Truth x v h = tt
read_as-accepted kinds.Strategy x v h = tt

read_given-accepted : (p : Property) (o : Option Data) (v : PropertyValue) → Accepted (row p).kind (Ok (row p).built_in) → read_given p o ≡ Ok v → Accepted (row p).kind (read_given p o)
read_given-accepted p None v built_in h = built_in
read_given-accepted p (Some x) v built_in h = read_as-accepted (row p).kind x v h

faultless : (r : Result PropertyValue Fault) → has_fault WrongType r ≡ false → has_fault OutOfRange r ≡ false → (v : PropertyValue) × (r ≡ Ok v)
faultless (Ok v) t o = (v, refl)
faultless (Err WrongType) t o = absurd (true≢false t)
faultless (Err OutOfRange) t o = absurd (true≢false o)

find-none : (test : Property → Bool) (xs : List Property) (i : ℕ) (d : Property) → find test xs ≡ None → i < length xs → test (get_or xs i d) ≡ false
find-none test [] i d h l = absurd (omega arith)
find-none test (x ∷ xs) zero d h l = by (test x) refl
  where
    by : (b : Bool) → test x ≡ b → test x ≡ false
    by false e = e
    by true e = let bad : Some x ≡ None = rw e at h in cc
find-none test (x ∷ xs) (suc i) d h l = by (test x) refl (λ g. find-none test xs i d g (omega arith))
  where
    by : (b : Bool) → test x ≡ b → (find test xs ≡ None → test (get_or xs i d) ≡ false) → test (get_or xs i d) ≡ false
    by false e later = later (rw e at h)
    by true e later = let bad : Some x ≡ None = rw e at h in cc

-- no value in force of the properties has a fault
record HaveNoFault (some : List Property) (name : List ℕ) (d : Data) : Type 0 where
  types : find (is_at_fault WrongType name d) some ≡ None
  ranges : find (is_at_fault OutOfRange name d) some ≡ None

accepted-at : (some : List Property) (i : ℕ) (name : List ℕ) (d : Data) → HaveNoFault some name d → i < length some → let p : Property = get_or some i properties.Slots in Accepted (row p).kind (Ok (row p).built_in) → Accepted (row p).kind (in_force p name d)
accepted-at some i name d h l built_in =
    let p : Property = get_or some i properties.Slots in
    let (v, is) = faultless (in_force p name d) (find-none _ some i properties.Slots h.types l) (find-none _ some i properties.Slots h.ranges l) in
    read_given-accepted p (given p name d) v built_in is

below : (n : ℕ) → n ≤ 4294967295 → n < 2 ^ 32
below n h = omega arith

command-in_range : (name : List ℕ) (d : Data) → HaveNoFault of_command name d → has_whole_buckets name d ≡ true → IsCommandInRange (command_in_force d name)
unfolding all command_in_force
command-in_range name d h windows =
    let timeout = accepted-at of_command 1 name d h (lit< tt) (lit≤ tt, lit≤ tt) in
    let semaphore = accepted-at of_command 3 name d h (lit< tt) (lit≤ tt, lit≤ tt) in
    let fallback_permits = accepted-at of_command 4 name d h (lit< tt) (lit≤ tt, lit≤ tt) in
    let volume = accepted-at of_command 7 name d h (lit< tt) (lit≤ tt, lit≤ tt) in
    let sleep = accepted-at of_command 8 name d h (lit< tt) (lit≤ tt, lit≤ tt) in
    let percent = accepted-at of_command 9 name d h (lit< tt) (lit≤ tt, lit≤ tt) in
    let window = accepted-at of_command 12 name d h (lit< tt) (lit≤ tt, lit≤ tt) in
    let buckets = accepted-at of_command 13 name d h (lit< tt) (lit≤ tt, lit≤ tt) in
    let health = accepted-at of_command 14 name d h (lit< tt) (lit≤ tt, lit≤ tt) in
    record {
      timeout = below _ timeout.1;
      semaphore = below _ semaphore.1;
      fallback_permits = below _ fallback_permits.1;
      volume = below _ volume.1;
      sleep = below _ sleep.1;
      percent = below _ percent.1;
      some_window = window.0;
      short_window = window.1;
      some_buckets = buckets.0;
      few_buckets = buckets.1;
      whole_buckets = whole _ _ buckets.0 windows;
      health = below _ health.1;
    }
  where
    whole : (n by : ℕ) → 1 ≤ by → (n % by == 0) ≡ true → by * (n / by) ≡ n
    whole n by some even = let rest : n % by ≡ 0 = eqb-true (n % by) 0 even in let above : 0 < by = omega arith in omega arith

-- a subject whose values have no fault, and whose window is cut into equal buckets
record IsFaultless (d : Data) (s : Subject) : Type 0 where
  values : HaveNoFault (properties_of s.scope) s.name d
  windows : has_whole_buckets s.name d ≡ true

find-none-parts : (test : Property → Bool) (xs ys : List Property) → find test (xs ++ ys) ≡ None → (find test xs ≡ None) × (find test ys ≡ None)
find-none-parts test [] ys h = (refl, h)
find-none-parts test (x ∷ xs) ys h = by (test x) refl (find-none-parts test xs ys)
  where
    by : (b : Bool) → test x ≡ b → (find test (xs ++ ys) ≡ None → (find test xs ≡ None) × (find test ys ≡ None)) → (find test (x ∷ xs) ≡ None) × (find test ys ≡ None)
    by true e later = let bad : Some x ≡ None = rw e at h in cc
    by false e later = let (front, back) = later (rw e at h) in (rw e front, back)

-- the values of a group's own command have none where those of the group have none
own-values : (name : List ℕ) (d : Data) → HaveNoFault all name d → HaveNoFault of_command name d
unfolding all
own-values name d h = record {
  types = inner (is_at_fault WrongType name d) h.types;
  ranges = inner (is_at_fault OutOfRange name d) h.ranges;
}
  where
    inner : (test : Property → Bool) → find test all ≡ None → find test of_command ≡ None
    inner test none = (find-none-parts test of_command (drop 18 all) ((find-none-parts test (take 2 all) (of_command ++ drop 18 all) none).1)).0

commands-in_range : (d : Data) (cs : Commands) → AllByRecursion (IsFaultless d) (map (λ c. a_command c.0) cs) → AllByRecursion IsCommandInRange (map (λ c. command_in_force d c.0) cs)
commands-in_range d [] h = tt
commands-in_range d (c ∷ cs) h = (command-in_range c.0 d h.0.values h.0.windows, commands-in_range d cs h.1)

group-in_range : (d : Data) (commands : Commands) (place : ℕ) (name : List ℕ) → length (commands_in place commands) ≤ 15 → AllByRecursion (IsFaultless d) (subjects_at commands place name)
    → IsInRange (props_in_force d commands place name)
unfolding all
group-in_range d commands place name few h =
    let slots = accepted-at all 1 name d h.0.values (lit< tt) (lit≤ tt, lit≤ tt) in
    let core = accepted-at all 18 name d h.0.values (lit< tt) (lit≤ tt, lit≤ tt) in
    let queue_threshold = accepted-at all 20 name d h.0.values (lit< tt) (lit≤ tt, lit≤ tt) in
    let further = length-map (commands_in place commands) (λ c. command_in_force d c.0) in
    record {
      some_slots = slots.0;
      few_slots = slots.1;
      some_core = core.0;
      small_core = core.1;
      queue = accepted-at all 19 name d h.0.values (lit< tt) tt;
      queue_threshold = below _ queue_threshold.1;
      some_commands = omega arith;
      few_commands = omega (arith, further);
      commands = (command-in_range name d (own-values name d h.0.values) h.0.windows, commands-in_range d (commands_in place commands) h.1);
    }

recursion-parts : {X : Type 0} (P : X → Type 0) (xs ys : List X) → AllByRecursion P (xs ++ ys) → AllByRecursion P xs × AllByRecursion P ys
recursion-parts P [] ys h = (tt, h)
recursion-parts P (x ∷ xs) ys h = let (front, back) = recursion-parts P xs ys h.1 in ((h.0, front), back)

rows-in_range : (d : Data) (commands : Commands) (from : ℕ) (names : List (List ℕ)) → ((place : ℕ) → length (commands_in place commands) ≤ 15)
    → AllByRecursion (IsFaultless d) (flat_map (λ row. row) (each_from from (subjects_at commands) names)) → AllByRecursion (λ group. IsInRange group.1) (each_from from (group_in_force d commands) names)
rows-in_range d commands from [] few h = tt
rows-in_range d commands from (name ∷ names) few h =
    let (here, later) = recursion-parts (IsFaultless d) (subjects_at commands from name) (flat_map (λ row. row) (each_from (from + 1) (subjects_at commands) names)) h in
    (group-in_range d commands from name (few from) here, rows-in_range d commands (from + 1) names few later)

values-passed : (fault : Fault) (d : Data) (s : Subject) (rest : List Subject) → checked_values fault d (s ∷ rest) ≡ Ok tt → (first_at_fault fault d s ≡ None) × (checked_values fault d rest ≡ Ok tt)
values-passed fault d s rest h = by (first_at_fault fault d s) refl
  where
    by : (found : Option Property) → first_at_fault fault d s ≡ found → (first_at_fault fault d s ≡ None) × (checked_values fault d rest ≡ Ok tt)
    by (Some p) is = let bad : refused_at fault s.name (Some p) (checked_values fault d rest) ≡ Ok tt = rw is at h in cc
    by None is = (is, rw is at h)

windows-passed : (d : Data) (s : Subject) (rest : List Subject) → checked_windows d (s ∷ rest) ≡ Ok tt → (has_whole_buckets s.name d ≡ true) × (checked_windows d rest ≡ Ok tt)
windows-passed d s rest h = by (has_whole_buckets s.name d) refl
  where
    by : (b : Bool) → has_whole_buckets s.name d ≡ b → (has_whole_buckets s.name d ≡ true) × (checked_windows d rest ≡ Ok tt)
    by false is = let bad : Err (refusals.NotMultiple s.name) ≡ Ok tt = rw is at h in cc
    by true is = (is, rw is at h)

all-faultless : (d : Data) (some : List Subject) → checked_values WrongType d some ≡ Ok tt → checked_values OutOfRange d some ≡ Ok tt → checked_windows d some ≡ Ok tt → AllByRecursion (IsFaultless d) some
all-faultless d [] types ranges windows = tt
all-faultless d (s ∷ rest) types ranges windows =
    let (type_here, types_later) = values-passed WrongType d s rest types in
    let (range_here, ranges_later) = values-passed OutOfRange d s rest ranges in
    let (window_here, windows_later) = windows-passed d s rest windows in
    (record { values = record { types = type_here; ranges = range_here }; windows = window_here }, all-faultless d rest types_later ranges_later windows_later)

-- where no check refuses, the properties of each group and of its commands are in their ranges
pub groups-in_range : (d : Data) (names : List (List ℕ)) (commands : Commands) → ((place : ℕ) → length (commands_in place commands) ≤ 15)
    → checked_values WrongType d (subjects names commands) ≡ Ok tt → checked_values OutOfRange d (subjects names commands) ≡ Ok tt → checked_windows d (subjects names commands) ≡ Ok tt
    → All (λ group. IsInRange group.1) (each_from 0 (group_in_force d commands) names)
groups-in_range d names commands few types ranges windows =
    All-from_recursion _ _ (rows-in_range d commands 0 names few (all-faultless d (subjects names commands) types ranges windows))

read_given-audit : (o : Option Data) → IfSome (optional_number (read_given properties.AuditSteps o)) IsAuditLimit
read_given-audit None = tt
read_given-audit (Some (integer (negsuc n))) = tt
read_given-audit (Some (integer (pos n))) = by (nat_le 1 n && nat_le n 1000000) refl
  where
    by : (b : Bool) → (nat_le 1 n && nat_le n 1000000) ≡ b → IfSome (optional_number (within 1 1000000 (pos n))) IsAuditLimit
    by true e = let (low, high) = both (nat_le 1 n) (nat_le n 1000000) e in rw e (leb-true 1 n low, leb-true n 1000000 high)
    by false e = rw e tt
read_given-audit (Some (string s)) = tt
read_given-audit (Some (float f)) = tt
read_given-audit (Some (boolean b)) = tt
read_given-audit (Some (datetime t)) = tt
read_given-audit (Some (array xs)) = tt
read_given-audit (Some (table ms)) = tt

-- a limit of audited steps in force is one
pub audit-in_range : (d : Data) → IfSome (optional_number (in_force properties.AuditSteps [] d)) IsAuditLimit
audit-in_range d = read_given-audit (given properties.AuditSteps [] d)
