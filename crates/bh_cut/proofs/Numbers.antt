-- The number that a name has among the groups of a run, as these come and go.
use Rattle.std.proofs.Common.{◌≡◌, ◌≢◌, ◌⊎◌, inl, inr, ◌+◌, ◌<◌, ℕ, zero, suc, true, false, List, [], ◌∷◌, ◌++◌, length, set, Option, Some, None, refl, ◌∙◌, sym, ap, arith, add-zero}
use Rattle.std.proofs.lemmas.Option.{slice_get_within}
use Rattle.std.specs.Cmp.Lexicographic.{bytes_decides}
use Rattle.std.specs.Prelude.{option_and_then, is_some, slice_get, if◌then◌else◌}
use Rattle.std.specs.Str.{bytes_eq}
use Rattle.bh_port.specs.declared.groups.Entry.{Entry}
use Rattle.bh_port.specs.Entries.{entry_at, if_there, last_named, new_entry, number_of, without}
use Rattle.bh_port.proofs.Naming.{entry-push, entry-pushed, entry-without_other, entry-without_same, without_is}

-- a group of one more name is there last, or not
last_named-push : (name : List ℕ) (es : List Entry) (e : Entry) (from : ℕ) (found : Option ℕ)
    → last_named name (es ++ e ∷ []) from found ≡ (if bytes_eq e.name name then Some (from + length es) else last_named name es from found)
last_named-push name [] e from found = ap (λ n. if bytes_eq e.name name then Some n else found) (sym (add-zero from))
last_named-push name (x ∷ es) e from found =
    let same : (from + 1) + length es ≡ from + suc (length es) = omega arith in
    let later = if bytes_eq x.name name then Some from else found in
    last_named-push name es e (from + 1) later ∙ ap (λ n. if bytes_eq e.name name then Some n else last_named name es (from + 1) later) same

-- whether a group is there does not matter
last_named-set : (name : List ℕ) (es : List Entry) (from : ℕ) (found : Option ℕ) (n : ℕ) (e : Entry) → slice_get es n ≡ Some e
    → last_named name (set es n (record e { live = false })) from found ≡ last_named name es from found
last_named-set name [] from found n e at = absurd cc
last_named-set name (x ∷ es) from found zero e at =
    let same : e ≡ x = cc in ap (λ (k : Entry). last_named name es (from + 1) (if bytes_eq k.name name then Some from else found)) same
last_named-set name (x ∷ es) from found (suc n) e at = last_named-set name es (from + 1) (if bytes_eq x.name name then Some from else found) n e at

-- the group of the number has the name, whether it is there or not
pub record IsNamed (name : List ℕ) (es : List Entry) (from n : ℕ) : Type 0 where
  pub place : ℕ
  pub entry : Entry
  pub number_is : n ≡ from + place
  pub at : slice_get es place ≡ Some entry
  pub name_is : bytes_eq entry.name name ≡ true

named : (name : List ℕ) (es : List Entry) (from : ℕ) (found : Option ℕ) (n : ℕ) → last_named name es from found ≡ Some n → (found ≡ Some n) ⊎ IsNamed name es from n
named name [] from found n h = inl h
named name (x ∷ es) from found n h = elim (named name es (from + 1) (if bytes_eq x.name name then Some from else found) n h) [
  | inr w ↦ inr (record { place = suc w.place; entry = w.entry; number_is = omega (arith, w.number_is); at = w.at; name_is = w.name_is })
  | inl f ↦ elim (bytes_eq x.name name) as (λ b. bytes_eq x.name name ≡ b → (if b then Some from else found) ≡ Some n → (found ≡ Some n) ⊎ IsNamed name (x ∷ es) from n) [
    | true ↦ λ is k. (let same : from ≡ n = cc in inr (record { place = zero; entry = x; number_is = omega (arith, same); at = refl; name_is = is }))
    | false ↦ λ is k. inl k
  ] refl f
]

-- the same of all groups
pub record HasName (es : List Entry) (n : ℕ) (name : List ℕ) : Type 0 where
  pub entry : Entry
  pub at : slice_get es n ≡ Some entry
  pub name_is : bytes_eq entry.name name ≡ true

last-has_name : (es : List Entry) (name : List ℕ) (n : ℕ) → last_named name es 0 None ≡ Some n → HasName es n name
last-has_name es name n h = elim (named name es 0 None n h) [
  | inl none ↦ absurd (cc none)
  | inr w ↦ let same : w.place ≡ n = omega (arith, w.number_is) in record { entry = w.entry; at = ap (slice_get es) (sym same) ∙ w.at; name_is = w.name_is }
]

pub equal : (a b : List ℕ) → bytes_eq a b ≡ true → a ≡ b
equal a b h = (bytes_decides a b).0 h

-- groups of two names have two numbers
has_names-apart : (es : List Entry) (n k : ℕ) (a b : List ℕ) → HasName es n a → HasName es k b → bytes_eq a b ≡ false → n ≢ k
has_names-apart es n k a b first second differ = λ same.
    let one : first.entry ≡ second.entry = cc (first.at, second.at, same) in
    let alike : a ≡ b = sym (equal first.entry.name a first.name_is) ∙ ap (λ (e : Entry). e.name) one ∙ equal second.entry.name b second.name_is in
    let is : bytes_eq a b ≡ true = (bytes_decides a b).1 alike in cc

-- ---- the number of a name

-- the group of the number is there, and has the name
pub record IsThere (es : List Entry) (name : List ℕ) (n : ℕ) : Type 0 where
  pub named : HasName es n name
  pub last : last_named name es 0 None ≡ Some n
  pub entry : Entry
  pub at : entry_at es n ≡ Some entry

pub number-there : (es : List Entry) (name : List ℕ) (n : ℕ) → number_of es name ≡ Some n → IsThere es name n
number-there es name n h =
    elim (last_named name es 0 None) as (λ o. last_named name es 0 None ≡ o → option_and_then (if_there es) o ≡ Some n → IsThere es name n) [
      | None ↦ λ _ k. absurd cc
      | Some m ↦ λ last k. elim (entry_at es m) as (λ o. entry_at es m ≡ o → (if is_some o then Some m else None) ≡ Some n → IsThere es name n) [
        | None ↦ λ _ j. absurd cc
        | Some e ↦ λ at j.
            let same : m ≡ n = cc in
            let is : last_named name es 0 None ≡ Some n = last ∙ ap (λ i. Some i) same in
            record { named = last-has_name es name n is; last = is; entry = e; at = ap (entry_at es) (sym same) ∙ at }
      ] refl k
    ] refl h

pub numbers-apart : (es : List Entry) (n k : ℕ) (a b : List ℕ) → number_of es a ≡ Some n → number_of es b ≡ Some k → bytes_eq a b ≡ false → n ≢ k
numbers-apart es n k a b first second differ = has_names-apart es n k a b (number-there es a n first).named (number-there es b k second).named differ

-- ---- a group more

-- of another name
pub number-push_other : (es : List Entry) (other name : List ℕ) (place : ℕ) → bytes_eq other name ≡ false → number_of (es ++ new_entry other place ∷ []) name ≡ number_of es name
number-push_other es other name place differ =
    let e = new_entry other place in
    let last : last_named name (es ++ e ∷ []) 0 None ≡ last_named name es 0 None =
    last_named-push name es e 0 None ∙ ap (λ b. if b then Some (0 + length es) else last_named name es 0 None) differ in
    ap (option_and_then (if_there (es ++ e ∷ []))) last
    ∙ elim (last_named name es 0 None) as (λ o. last_named name es 0 None ≡ o → option_and_then (if_there (es ++ e ∷ [])) o ≡ option_and_then (if_there es) o) [
      | None ↦ λ _. refl
      | Some m ↦ λ is.
          let has = last-has_name es name m is in
          let inside : m < length es = slice_get_within es m has.entry has.at in
          let apart : m ≢ length es = omega arith in
          ap (λ o. if is_some o then Some m else None) (entry-push es e m apart)
    ] refl

-- of this name
pub number-pushed : (es : List Entry) (name : List ℕ) (place : ℕ) → number_of (es ++ new_entry name place ∷ []) name ≡ Some (length es)
number-pushed es name place =
    let e = new_entry name place in
    let same : bytes_eq name name ≡ true = (bytes_decides name name).1 refl in
    let count : 0 + length es ≡ length es = omega arith in
    let last : last_named name (es ++ e ∷ []) 0 None ≡ Some (length es) =
    last_named-push name es e 0 None ∙ ap (λ b. if b then Some (0 + length es) else last_named name es 0 None) same ∙ ap (λ n. Some n) count in
    ap (option_and_then (if_there (es ++ e ∷ []))) last ∙ ap (λ o. if is_some o then Some (length es) else None) (entry-pushed es name place)

-- ---- a group fewer

last-without : (es : List Entry) (n : ℕ) (name : List ℕ) (e : Entry) → slice_get es n ≡ Some e → last_named name (without n es) 0 None ≡ last_named name es 0 None
last-without es n name e at = ap (λ (l : List Entry). last_named name l 0 None) (without_is es n e at) ∙ last_named-set name es 0 None n e at

-- of another name
pub number-without_other : (es : List Entry) (n : ℕ) (other name : List ℕ) → number_of es other ≡ Some n → bytes_eq other name ≡ false → number_of (without n es) name ≡ number_of es name
number-without_other es n other name is differ =
    let there = (number-there es other n is).named in
    ap (option_and_then (if_there (without n es))) (last-without es n name there.entry there.at)
    ∙ elim (last_named name es 0 None) as (λ o. last_named name es 0 None ≡ o → option_and_then (if_there (without n es)) o ≡ option_and_then (if_there es) o) [
      | None ↦ λ _. refl
      | Some m ↦ λ last.
          let apart : n ≢ m = has_names-apart es n m other name there (last-has_name es name m last) differ in
          ap (λ o. if is_some o then Some m else None) (entry-without_other es n m (λ same. apart (sym same)))
    ] refl

-- of this name
pub number-without_same : (es : List Entry) (n : ℕ) (name : List ℕ) → number_of es name ≡ Some n → number_of (without n es) name ≡ None
number-without_same es n name is =
    let there = number-there es name n is in
    ap (option_and_then (if_there (without n es))) (last-without es n name there.named.entry there.named.at ∙ there.last)
    ∙ ap (λ o. if is_some o then Some n else None) (entry-without_same es n)
