-- The further commands of a file are of its groups, at most 15 of each, and their numbers are in their ranges.
use Rattle.std.proofs.Common.{◌≡◌, ◌==◌, ℕ, zero, suc, ◌+◌, ◌<◌, ◌≤◌, nat_lt, List, [], ◌∷◌, ◌++◌, length, map, slice_index, codes, Bool, true, false, Option, Some, None, option_and_then, Ok, Err, All, if◌then◌else◌, refl, ap, ◌∙◌, subst, arith}
use Rattle.std.proofs.lemmas.Bool.{ltb-true, eqb-true}
use Rattle.std.proofs.lemmas.Bool.Decides.{nat_tests}
use Rattle.std.proofs.lemmas.List.{length-append, length-map}
use Rattle.std.proofs.lemmas.List.Elements.{All-from_recursion, filter-append}
use Rattle.std.proofs.lemmas.List.Quantifiers.{position-Some}
use Rattle.std.specs.List.{AllByRecursion}
use Rattle.std.specs.Str.{bytes_eq}
use Rattle.toml.specs.Data.{Data}
use Rattle.bh_base.specs.Commands.{command_count, each_from}
use Rattle.bh_props.specs.declared.error.SettingsError.TheVariants as refusals
use Rattle.bh_props.specs.Tree.{keys_of, look_up}
use Rattle.bh_props.specs.Commands.{Commands, commands_in, entries_of, group_named, place_named, numbered, is_free, next_command, commands_from, commands_of}
use Rattle.bh_props.specs.Settings.{IsFurther, group_in_force}
use Rattle.bh_props.proofs.Each.{length-each_from}

-- how many further commands the group at the place has
abbrev pub count : ℕ → Commands → ℕ
count place cs = length (commands_in place cs)

-- the command is of one of so many groups, and its number is one of those of that group's further commands
abbrev pub IsNumbered : ℕ → Commands → List ℕ × (ℕ × ℕ) → Type 0
IsNumbered groups cs c = (c.1.0 < groups) × (1 ≤ c.1.1) × (c.1.1 ≤ count c.1.0 cs)

-- each command is, and no group has more than 15
pub record AreNumbered (groups : ℕ) (cs : Commands) : Type 0 where
  pub few : (place : ℕ) → count place cs ≤ 15
  pub known : AllByRecursion (IsNumbered groups cs) cs

pub count-last : (place : ℕ) (cs : Commands) (c : List ℕ × (ℕ × ℕ)) → count place (cs ++ c ∷ []) ≡ count place cs + (if c.1.0 == place then 1 else 0)
count-last place cs c = by (c.1.0 == place) refl
  where
    parts : count place (cs ++ c ∷ []) ≡ count place cs + count place (c ∷ [])
    parts = ap length (filter-append (λ x. x.1.0 == place) cs (c ∷ [])) ∙ length-append (commands_in place cs) (commands_in place (c ∷ []))

    by : (b : Bool) → (c.1.0 == place) ≡ b → count place (cs ++ c ∷ []) ≡ count place cs + (if c.1.0 == place then 1 else 0)
    by true e = parts ∙ rw e refl
    by false e = parts ∙ rw e refl

-- what is numbered stays so with one more
numbered-more : (groups : ℕ) (cs : Commands) (x : List ℕ × (ℕ × ℕ)) (some : Commands) → AllByRecursion (IsNumbered groups cs) some → AllByRecursion (IsNumbered groups (cs ++ x ∷ [])) some
numbered-more groups cs x [] h = tt
numbered-more groups cs x (c ∷ some) h =
    let more : count c.1.0 (cs ++ x ∷ []) ≡ count c.1.0 cs + (if x.1.0 == c.1.0 then 1 else 0) = count-last c.1.0 cs x in
    let old : c.1.1 ≤ count c.1.0 cs = h.0.2 in
    ((h.0.0, h.0.1, omega arith), numbered-more groups cs x some h.1)

all-last : {X : Type 0} (P : X → Type 0) (xs : List X) (x : X) → AllByRecursion P xs → P x → AllByRecursion P (xs ++ x ∷ [])
all-last P [] x h p = (p, tt)
all-last P (y ∷ xs) x h p = (h.0, all-last P xs x h.1 p)

same-place : (place : ℕ) → (place == place) ≡ true
same-place place = grind (arith, nat_tests)

next : (groups place : ℕ) (before : Commands) (name : List ℕ) → place < groups → count place before < 15 → AreNumbered groups before → AreNumbered groups (before ++ (name, (place, count place before + 1)) ∷ [])
next groups place before name within room h = record {
  few = λ q. few q;
  known = all-last (IsNumbered groups (before ++ x ∷ [])) before x (numbered-more groups before x before h.known) (within, omega arith, last);
}
  where
    x : List ℕ × (ℕ × ℕ)
    x = (name, (place, count place before + 1))

    last : count place before + 1 ≤ count place (before ++ (name, (place, count place before + 1)) ∷ [])
    last = rw (count-last place before (name, (place, count place before + 1)), same-place place) (omega arith)

    few : (q : ℕ) → count q (before ++ (name, (place, count place before + 1)) ∷ []) ≤ 15
    few q = by (place == q) refl (h.few q)
      where
        by : (b : Bool) → (place == q) ≡ b → count q before ≤ 15 → count q (before ++ (name, (place, count place before + 1)) ∷ []) ≤ 15
        by true e old =
            let same : place ≡ q = eqb-true place q e in
            let here : count q before < 15 = subst (λ n. count n before < 15) same room in
            rw (count-last q before (name, (place, count place before + 1)), e) (omega arith)
        by false e old = rw (count-last q before (name, (place, count place before + 1)), e) (omega arith)

pub place-within : (groups : List (List ℕ)) (d : Data) (place : ℕ) → place_named groups d ≡ Some place → place < length groups
place-within groups d place h = by (group_named d) refl
  where
    by : (o : Option (List ℕ)) → group_named d ≡ o → place < length groups
    by None e = let bad : None ≡ Some place = rw e at h in cc
    by (Some group) e = (position-Some (λ name. bytes_eq name group) groups place [] (rw e at h)).0

numbered-next : (groups : List (List ℕ)) (before : Commands) (name : List ℕ) (d : Data) (c : ℕ × ℕ) → next_command groups before name d ≡ Some c → AreNumbered (length groups) before
    → AreNumbered (length groups) (before ++ (name, c) ∷ [])
numbered-next groups before name d c is h = by_name (is_free groups name) refl
  where
    by_room : (place : ℕ) → place < length groups → (b : Bool) → nat_lt (count place before) 15 ≡ b → (if b then Some (place, count place before + 1) else None) ≡ Some c
        → AreNumbered (length groups) (before ++ (name, c) ∷ [])
    by_room place within true room e =
        let same : (place, count place before + 1) ≡ c = cc in
        subst (λ x. AreNumbered (length groups) (before ++ (name, x) ∷ [])) same (next (length groups) place before name within (ltb-true (count place before) 15 room) h)
    by_room place within false room e = let bad : None ≡ Some c = e in cc

    by_place : (o : Option ℕ) → place_named groups d ≡ o → option_and_then (numbered before) o ≡ Some c → AreNumbered (length groups) (before ++ (name, c) ∷ [])
    by_place None e some = let bad : None ≡ Some c = some in cc
    by_place (Some place) e some = by_room place (place-within groups d place e) (nat_lt (count place before) 15) refl some

    by_name : (b : Bool) → is_free groups name ≡ b → AreNumbered (length groups) (before ++ (name, c) ∷ [])
    by_name true e = by_place (place_named groups d) refl (rw e at is)
    by_name false e = let bad : None ≡ Some c = rw e at is in cc

numbered-from : (groups : List (List ℕ)) (before : Commands) (es : List (List ℕ × Data)) (commands : Commands) → AreNumbered (length groups) before → commands_from groups before es ≡ Ok commands → AreNumbered (length groups) commands
numbered-from groups before [] commands h is = let same : before ≡ commands = cc in subst (AreNumbered (length groups)) same h
numbered-from groups before (e ∷ es) commands h is = by (next_command groups before e.0 e.1) refl (λ more. numbered-from groups more es commands)
  where
    by : (o : Option (ℕ × ℕ)) → next_command groups before e.0 e.1 ≡ o
        → ((more : Commands) → AreNumbered (length groups) more → commands_from groups more es ≡ Ok commands → AreNumbered (length groups) commands) → AreNumbered (length groups) commands
    by None next later = let bad : Err (refusals.BadCommand (length before + 1)) ≡ Ok commands = rw next at is in cc
    by (Some c) next later = later (before ++ (e.0, c) ∷ []) (numbered-next groups before e.0 e.1 c next h) (rw next at is)

-- the further commands of a file
pub commands_of-numbered : (groups : List (List ℕ)) (d : Data) (commands : Commands) → commands_of groups d ≡ Ok commands → AreNumbered (length groups) commands
commands_of-numbered groups d commands is = numbered-from groups [] (entries_of (look_up (keys_of (codes "service.command")) d)) commands (record { few = λ place. omega arith; known = tt }) is

counts-at : (d : Data) (commands : Commands) (from : ℕ) (names : List (List ℕ)) (i : ℕ) → i < length names
    → slice_index (map (λ g. command_count g.1) (each_from from (group_in_force d commands) names)) i ≡ suc (count (from + i) commands)
counts-at d commands from [] i h = absurd (omega arith)
counts-at d commands from (name ∷ names) zero h =
    let here : from ≡ from + 0 = omega arith in
    ap suc (simp length-map refl) ∙ ap (λ n. suc (count n commands)) here
counts-at d commands from (name ∷ names) (suc i) h =
    let there : from + 1 + i ≡ from + suc i = omega arith in
    counts-at d commands (from + 1) names i (omega arith) ∙ ap (λ n. suc (count n commands)) there

-- those of settings in force are commands that their groups have
pub further-known : (d : Data) (names : List (List ℕ)) (commands : Commands) → AreNumbered (length names) commands
    → All (λ c. IsFurther (each_from 0 (group_in_force d commands) names) c.1) commands
further-known d names commands h = All-from_recursion _ commands (each commands h.known)
  where
    each : (some : Commands) → AllByRecursion (IsNumbered (length names) commands) some → AllByRecursion (λ c. IsFurther (each_from 0 (group_in_force d commands) names) c.1) some
    each [] known = tt
    each (c ∷ some) known =
        let within : c.1.0 < length names = known.0.0 in
        let below : c.1.1 ≤ count c.1.0 commands = known.0.2 in
        let groups = length-each_from 0 (group_in_force d commands) names in
        let counts = counts-at d commands 0 names c.1.0 within in
        let here : 0 + c.1.0 ≡ c.1.0 = omega arith in
        let count_here = ap (λ n. count n commands) here in
        ((omega (arith, groups), known.0.1, omega (arith, counts, count_here)), each some known.1)
