-- The numbers that are noted for names, where one group more is noted or one was retired.
use Rattle.std.proofs.Common.{◌≡◌, ◌≢◌, inl, inr, ◌+◌, ◌<◌, ◌≤◌, ℕ, Bool, true, false, List, [], ◌∷◌, ◌++◌, length, set, Option, Some, None, refl, ◌∙◌, sym, ap, subst, arith}
use Rattle.std.proofs.lemmas.Bool.Decides.{nat_tests}
use Rattle.std.specs.Cmp.Lexicographic.{bytes_decides}
use Rattle.std.specs.Prelude.{nat_lt, option_and_then, slice_get}
use Rattle.std.specs.Str.{bytes_eq}
use Rattle.bh_core.proofs.OneOfMany.{slice_get-set_other, slice_get-set_same}
use Rattle.bh_port.specs.declared.groups.Entry.{Entry}
use Rattle.bh_port.specs.Entries.{last_named, new_entry}
use Rattle.bh_port.specs.Latest.{AreLatest, if_known, latest_at, noted, place_of, unknown}
use Rattle.bh_port.proofs.Keeping.{either}
use Rattle.bh_port.proofs.Lists.{push_before, push_here, push_past, read_within}
use Rattle.bh_port.proofs.Naming.{last_named_is, within}

noted_rises : (m n : ℕ) → m ≤ n → noted m ≤ noted n
noted_rises m n le = cases (nat_lt m unknown) (nat_lt n unknown) refl refl
  where
    cases : (a b : Bool) → nat_lt m unknown ≡ a → nat_lt n unknown ≡ b → noted m ≤ noted n
    cases a b p q = grind (arith, nat_tests, p, q, le)

-- what was noted is no lower than the number that it was noted for, where it is known
noted_known : (n m : ℕ) → noted n ≤ m → m < unknown → n ≤ m
noted_known n m le known = cases (nat_lt n unknown) refl
  where
    cases : (a : Bool) → nat_lt n unknown ≡ a → n ≤ m
    cases a p = grind (arith, nat_tests, p, le, known)

-- what is known at the place of a name was noted there
pub known_at : (numbers name : List ℕ) (m : ℕ) → latest_at numbers name ≡ Some m → (slice_get numbers (place_of name) ≡ Some m) × (m < unknown)
known_at numbers name m h = at (slice_get numbers (place_of name)) refl h
  where
    at : (o : Option ℕ) → slice_get numbers (place_of name) ≡ o → option_and_then if_known o ≡ Some m → (slice_get numbers (place_of name) ≡ Some m) × (m < unknown)
    at None is k = absurd cc
    at (Some n) is k = cases (nat_lt n unknown) refl
      where
        cases : (b : Bool) → nat_lt n unknown ≡ b → (slice_get numbers (place_of name) ≡ Some m) × (m < unknown)
        cases true low = (let same : n ≡ m = grind (arith, low, k) in (is ∙ ap (λ j. Some j) same, grind (arith, nat_tests, low, same)))
        cases false high = absurd (grind (arith, high, k))

-- no group yet
pub latest-none : (numbers : List ℕ) → AreLatest [] numbers
latest-none numbers number entry at = absurd cc

-- what was noted, where the group of this number has the name
pub latest_is : (es : List Entry) (numbers name : List ℕ) (m : ℕ) (e : Entry) → AreLatest es numbers → slice_get numbers (place_of name) ≡ Some m → m < unknown
    → slice_get es m ≡ Some e → bytes_eq e.name name ≡ true → last_named name es 0 None ≡ Some m
latest_is es numbers name m e latest here known at named = (let count : 0 + m ≡ m = omega arith in last_named_is name es 0 None m e at named highest ∙ ap (λ k. Some k) count)
  where
    highest : (n : ℕ) (d : Entry) → slice_get es n ≡ Some d → bytes_eq d.name name ≡ true → n ≤ m
    highest n d there has =
        let (k, is, low) = latest n d there in
        let same : k ≡ m = (let one = sym is ∙ ap (λ (q : List ℕ). slice_get numbers (place_of q)) ((bytes_decides d.name name).0 has) ∙ here in cc) in
        noted_known n m (subst (λ (j : ℕ). noted n ≤ j) same low) known

-- one group more
pub latest-push : (es : List Entry) (numbers name : List ℕ) (like : ℕ) → AreLatest es numbers → place_of name < length numbers
    → AreLatest (es ++ new_entry name like ∷ []) (set numbers (place_of name) (noted (length es)))
latest-push es numbers name like latest room number entry at = elim (either number (length es)) [
  | inl last ↦
      let is : entry ≡ new_entry name like = (let pushed = push_here es (new_entry name like) in cc (at, last, pushed)) in
      (noted (length es), ap (λ (k : Entry). slice_get numbers' (place_of k.name)) is ∙ here, subst (λ (k : ℕ). noted k ≤ noted (length es)) (sym last) (omega arith))
  | inr before ↦ older before
]
  where
    numbers' : List ℕ
    numbers' = set numbers (place_of name) (noted (length es))

    here : slice_get numbers' (place_of name) ≡ Some (noted (length es))
    here = (let old = read_within numbers (place_of name) room in slice_get-set_same numbers (place_of name) old.0 (noted (length es)) old.1)

    older : number ≢ length es → (k : ℕ) × (slice_get numbers' (place_of entry.name) ≡ Some k) × (noted number ≤ k)
    older before =
        let inside : number < length es = elim (within es number) [
          | inl inside ↦ inside
          | inr past ↦ absurd (let none = push_past es (new_entry name like) number (omega (arith, past, before)) in cc)
        ] in
        let (k, is, low) = latest number entry (sym (push_before es (new_entry name like) number inside) ∙ at) in
        elim (either (place_of entry.name) (place_of name)) [
          | inl same ↦ (noted (length es), ap (slice_get numbers') same ∙ here, noted_rises number (length es) (omega (arith, inside)))
          | inr apart ↦ (k, slice_get-set_other numbers (place_of name) (noted (length es)) (place_of entry.name) apart ∙ is, low)
        ]

-- a group that was retired keeps its name
pub latest-without : (es : List Entry) (n : ℕ) (e : Entry) (numbers : List ℕ) → slice_get es n ≡ Some e → AreLatest es numbers → AreLatest (set es n (record e { live = false })) numbers
latest-without es n e numbers at latest number entry there = elim (either number n) [
  | inl same ↦
      let is : entry ≡ record e { live = false } = (let now = slice_get-set_same es n e (record e { live = false }) at in cc (there, same, now)) in
      subst (λ (k : Entry). (j : ℕ) × (slice_get numbers (place_of k.name) ≡ Some j) × (noted number ≤ j)) (sym is) (latest number e (ap (slice_get es) same ∙ at))
  | inr differ ↦ latest number entry (sym (slice_get-set_other es n (record e { live = false }) number differ) ∙ there)
]
