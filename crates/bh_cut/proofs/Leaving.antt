-- What a line leaves as it is: it asks nothing of groups of other names, and each step is of a group that was registered.
use Rattle.std.proofs.Common.{◌≡◌, ◌≢◌, ◌⊎◌, inl, inr, ℕ, ◌<◌, ◌≤◌, ◌==◌, true, false, cond, List, [], ◌∷◌, ◌++◌, length, Option, Some, None, Result, Ok, Err, refl, sym, ap, ◌∙◌, subst, arith, length-append}
use Rattle.std.proofs.lemmas.Bool.Decides.{nat_tests}
use Rattle.std.proofs.lemmas.Option.{slice_get_within}
use Rattle.std.specs.List.{AllByRecursion}
use Rattle.std.specs.Prelude.{nat_lt, if◌then◌else◌}
use Rattle.std.specs.Str.{bytes_eq}
use Rattle.bh_base.specs.declared.step.Step.{Step}
use Rattle.bh_base.specs.Runs.{own}
use Rattle.bh_core.specs.CoreView.{most_groups}
use Rattle.bh_faults.specs.declared.fault.Fault.{Fault}
use Rattle.bh_faults.specs.declared.fault.Fault.TheVariants as faults
use Rattle.bh_lines.specs.ScriptLine.{Asked, a_step, a_group, an_end}
use Rattle.bh_lines.specs.StepLine.{◌>>=◌, Said, group_number, if_short, or_fault}
use Rattle.bh_port.specs.declared.act.LineAct.{LineAct}
use Rattle.bh_port.specs.declared.act.LineAct.TheVariants as act
use Rattle.bh_port.specs.declared.groups.Entry.{Entry}
use Rattle.bh_port.specs.Entries.{entry_at, new_entry, number_of, without}
use Rattle.bh_port.specs.Course.{Course, act_of, command_said, is_free, names_in, step_of}
use Rattle.bh_port.specs.Text.{course_with, held_at}
use Rattle.bh_port.proofs.Lists.{all_push, all_weaker}
use Rattle.bh_port.proofs.Naming.{entry-push, entry-without_other, length-without}
use Rattle.bh_props.specs.SettingsView.{SettingsView}
use Rattle.bh_cut.specs.Named.{group_of}
use Rattle.bh_cut.proofs.Numbers.{number-push_other, number-there, number-without_other, numbers-apart}

-- ---- what a line can ask for

module _ {A B : Type 0} where
  -- what holds of each fault, and of each result where the first part had one
  pub by_part : (P : Result B Fault → Type 0) (r : Result A Fault) (f : A → Result B Fault) → ((fault : Fault) → P (Err fault)) → ((x : A) → r ≡ Ok x → P (f x)) → P (r >>= f)
  by_part P (Ok x) f faulty well = well x refl
  by_part P (Err fault) f faulty well = faulty fault

module _ {A : Type 0} where
  pub by_option : (P : Result A Fault → Type 0) (fault : Fault) (o : Option A) → P (Err fault) → ((x : A) → o ≡ Some x → P (Ok x)) → P (or_fault fault o)
  by_option P fault (Some x) faulty well = well x refl
  by_option P fault None faulty well = faulty

found-some : {A : Type 0} (fault : Fault) (o : Option A) (x : A) → or_fault fault o ≡ Ok x → o ≡ Some x
found-some fault (Some y) x is = (let same : y ≡ x = cc in ap (λ k. Some k) same)
found-some fault None x is = absurd cc

-- a step is of the group that has the name
step-number : (service : SettingsView) (entries : List Entry) (said : Said) (x : Step) → step_of service entries said ≡ Ok x → number_of entries said.group ≡ Some x.group.0
step-number service entries said x is =
    by_part (λ r. r ≡ Ok x → number_of entries said.group ≡ Some x.group.0) (or_fault faults.Group (number_of entries said.group)) _ (λ fault h. absurd cc)
    (λ n at. by_part (λ r. r ≡ Ok x → number_of entries said.group ≡ Some x.group.0) (command_said service entries n said.command) _ (λ fault h. absurd cc)
    (λ command _. by_part (λ r. r ≡ Ok x → number_of entries said.group ≡ Some x.group.0) (if_short command said.op) _ (λ fault h. absurd cc)
    (λ o _ h.
    let number : n ≡ x.group.0 = ap (λ (r : Result Step Fault). elim r [ Ok y ↦ y.group.0 | Err fault ↦ n ]) h in
    found-some faults.Group (number_of entries said.group) n at ∙ ap (λ k. Some k) number))) is

-- what holds of each fault, and of each step, registration and retirement that a line can ask for
pub by_act : (P : Result LineAct Fault → Type 0) (service : SettingsView) (entries : List Entry) (asked : Asked)
    → ((fault : Fault) → P (Err fault))
    → ((x : Step) → number_of entries (group_of asked) ≡ Some x.group.0 → P (Ok (act.Step x)))
    → ((place : ℕ) → nat_lt (length entries) most_groups ≡ true → P (Ok (act.Register (group_of asked) place)))
    → ((n : ℕ) → number_of entries (group_of asked) ≡ Some n → P (Ok (act.Retire (record { 0 = n }))))
    → P (act_of service entries asked)
by_act P service entries (a_step said) faulty step register retire =
    by_part P (step_of service entries said) (λ x. Ok (act.Step x)) faulty (λ x is. step x (step-number service entries said x is))
by_act P service entries (a_group name like) faulty step register retire =
    elim (is_free service entries name) as (λ v. P (cond v (or_fault faults.Like (group_number (names_in service).groups like) >>= λ place. (if nat_lt (length entries) most_groups then Ok (act.Register name place) else Err faults.Groups)) (Err faults.Name))) [
      | true ↦ by_part P (or_fault faults.Like (group_number (names_in service).groups like)) _ faulty
          (λ place _. elim (nat_lt (length entries) most_groups) as (λ v. nat_lt (length entries) most_groups ≡ v → P (cond v (Ok (act.Register name place)) (Err faults.Groups))) [ true ↦ λ room. register place room | false ↦ λ _. faulty faults.Groups ] refl)
      | false ↦ faulty faults.Name
    ]
by_act P service entries (an_end name) faulty step register retire =
    by_part P (or_fault faults.Group (number_of entries name)) (λ n. Ok (act.Retire (record { 0 = n }))) faulty (λ n is. retire n (found-some faults.Group (number_of entries name) n is))

-- ---- groups of other names

-- the group of the name is as it was
pub record Leaves (name : List ℕ) (old new : Course) : Type 0 where
  pub number : number_of new.entries name ≡ number_of old.entries name
  pub entry : (n : ℕ) → number_of old.entries name ≡ Some n → entry_at new.entries n ≡ entry_at old.entries n
  pub steps : (n : ℕ) → number_of old.entries name ≡ Some n → own n new.steps ≡ own n old.steps

pub leaves-same : (name : List ℕ) (course : Course) → Leaves name course course
leaves-same name course = record { number = refl; entry = λ n is. refl; steps = λ n is. refl }

-- steps with one more
pub own-push_other : (n : ℕ) (steps : List Step) (x : Step) → (x.group.0 == n) ≡ false → own n (steps ++ x ∷ []) ≡ own n steps
own-push_other n [] x differ = ap (λ v. cond v (x ∷ []) []) differ
own-push_other n (y ∷ ys) x differ = elim (y.group.0 == n) as (λ v. cond v (y ∷ own n (ys ++ x ∷ [])) (own n (ys ++ x ∷ [])) ≡ cond v (y ∷ own n ys) (own n ys)) [
  | true ↦ ap (λ l. y ∷ l) (own-push_other n ys x differ)
  | false ↦ own-push_other n ys x differ
]

leaves-step : (name other : List ℕ) (course : Course) (x : Step) → bytes_eq other name ≡ false → number_of course.entries other ≡ Some x.group.0 → Leaves name course (record course { steps = course.steps ++ x ∷ [] })
leaves-step name other course x differ is = record {
  number = refl;
  entry = λ n at. refl;
  steps = λ n at.
      let apart : x.group.0 ≢ n = numbers-apart course.entries x.group.0 n other name is at differ in
      let test : (x.group.0 == n) ≡ false = grind (arith, nat_tests) in
      own-push_other n course.steps x test;
}

leaves-registration : (name other : List ℕ) (course : Course) (place : ℕ) → bytes_eq other name ≡ false → Leaves name course (record course { entries = course.entries ++ new_entry other place ∷ [] })
leaves-registration name other course place differ = record {
  number = number-push_other course.entries other name place differ;
  entry = λ n at.
      let there = (number-there course.entries name n at).named in
      let inside : n < length course.entries = slice_get_within course.entries n there.entry there.at in
      let apart : n ≢ length course.entries = omega arith in
      entry-push course.entries (new_entry other place) n apart;
  steps = λ n at. refl;
}

leaves-retirement : (name other : List ℕ) (course : Course) (k : ℕ) → bytes_eq other name ≡ false → number_of course.entries other ≡ Some k → Leaves name course (record course { entries = without k course.entries })
leaves-retirement name other course k differ is = record {
  number = number-without_other course.entries k other name is differ;
  entry = λ n at.
      let apart : k ≢ n = numbers-apart course.entries k n other name is at differ in
      entry-without_other course.entries k n (λ same. apart (sym same));
  steps = λ n at. refl;
}

-- a line that names another group
pub line-leaves : (service : SettingsView) (course : Course) (asked : Asked) (name : List ℕ) → bytes_eq (group_of asked) name ≡ false
    → Leaves name course (course_with service course (act_of service course.entries asked))
line-leaves service course asked name differ =
    by_act (λ r. Leaves name course (course_with service course r)) service course.entries asked
    (λ fault. leaves-same name course)
    (λ x is. leaves-step name (group_of asked) course x differ is)
    (λ place _. leaves-registration name (group_of asked) course place differ)
    (λ n is. elim (held_at service course n) as (λ v. Leaves name course (cond v course (record course { entries = without n course.entries }))) [
      | true ↦ leaves-same name course
      | false ↦ leaves-retirement name (group_of asked) course n differ is
    ])

-- ---- groups that were registered

-- no step was made in a group that was not registered
abbrev pub IsKnown : Course → Type 0
IsKnown course = AllByRecursion (λ x. x.group.0 < length course.entries) course.steps

-- a line keeps this, and leaves no fewer groups
pub record Grows (old new : Course) : Type 0 where
  pub known : IsKnown old → IsKnown new
  pub more : length old.entries ≤ length new.entries

grows-same : (course : Course) → Grows course course
grows-same course = record { known = λ k. k; more = omega arith }

grows-step : (course : Course) (name : List ℕ) (x : Step) → number_of course.entries name ≡ Some x.group.0 → Grows course (record course { steps = course.steps ++ x ∷ [] })
grows-step course name x is = record {
  known = λ k.
      let there = (number-there course.entries name x.group.0 is).named in
      all_push (λ y. y.group.0 < length course.entries) course.steps x k (slice_get_within course.entries x.group.0 there.entry there.at);
  more = omega arith;
}

grows-registration : (course : Course) (e : Entry) → Grows course (record course { entries = course.entries ++ e ∷ [] })
grows-registration course e =
    let longer : length course.entries ≤ length (course.entries ++ e ∷ []) = omega (arith, length-append course.entries (e ∷ [])) in record {
      known = λ k. all_weaker (λ y. y.group.0 < length course.entries) (λ y. y.group.0 < length (course.entries ++ e ∷ [])) course.steps (λ y low. omega (arith, low, longer)) k;
      more = longer;
    }

grows-retirement : (course : Course) (n : ℕ) → Grows course (record course { entries = without n course.entries })
grows-retirement course n =
    let same = length-without course.entries n in record {
      known = λ k. subst (λ (l : ℕ). AllByRecursion (λ y. y.group.0 < l) course.steps) (sym same) k;
      more = omega (arith, same);
    }

pub line-grows : (service : SettingsView) (course : Course) (asked : Asked) → Grows course (course_with service course (act_of service course.entries asked))
line-grows service course asked =
    by_act (λ r. Grows course (course_with service course r)) service course.entries asked
    (λ fault. grows-same course)
    (λ x is. grows-step course (group_of asked) x is)
    (λ place _. grows-registration course (new_entry (group_of asked) place))
    (λ n is. elim (held_at service course n) as (λ v. Grows course (cond v course (record course { entries = without n course.entries }))) [ true ↦ grows-same course | false ↦ grows-retirement course n ])

-- there are no more groups than before, or no more than may be
abbrev pub IsBounded : Course → Course → Type 0
IsBounded old new = (length new.entries ≤ length old.entries) ⊎ (length new.entries ≤ most_groups)

bounded-registration : (course : Course) (e : Entry) → nat_lt (length course.entries) most_groups ≡ true → IsBounded course (record course { entries = course.entries ++ e ∷ [] })
bounded-registration course e room =
    let few : length course.entries < most_groups = grind (arith, nat_tests) in
    inr (omega (arith, few, length-append course.entries (e ∷ [])))

pub line-bounded : (service : SettingsView) (course : Course) (asked : Asked) → IsBounded course (course_with service course (act_of service course.entries asked))
line-bounded service course asked =
    by_act (λ r. IsBounded course (course_with service course r)) service course.entries asked
    (λ fault. inl (omega arith))
    (λ x is. inl (omega arith))
    (λ place room. bounded-registration course (new_entry (group_of asked) place) room)
    (λ n is. elim (held_at service course n) as (λ v. IsBounded course (cond v course (record course { entries = without n course.entries }))) [ true ↦ inl (omega arith) | false ↦ inl (omega (arith, length-without course.entries n)) ])
