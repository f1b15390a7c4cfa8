-- Groups by name and number, one of which is new or was retired.
use Rattle.std.proofs.Common.{◌≡◌, ◌≢◌, ◌⊎◌, inl, inr, ◌+◌, ◌<◌, ◌≤◌, ℕ, zero, suc, Bool, true, false, cond, List, [], ◌∷◌, ◌++◌, length, set, Option, Some, None, refl, ◌∙◌, sym, ap, arith, add-zero}
use Rattle.std.proofs.lemmas.List.{length-set}
use Rattle.std.proofs.lemmas.Option.{slice_get_past}
use Rattle.std.specs.HashMap.{HashMap, Updates}
use Rattle.std.specs.Map.{lookup}
use Rattle.std.specs.String.{string_eq}
use Rattle.std.proofs.lemmas.Map.Text.{hash_map_updates_text}
use Rattle.std.specs.Prelude.{String, string_bytes, option_and_then, is_some, IsSome, slice_get, if◌then◌else◌}
use Rattle.std.specs.Option.{option_map_or}
use Rattle.std.specs.Str.{bytes_eq}
use Rattle.bh_core.proofs.OneOfMany.{slice_get-set_other, slice_get-set_same}
use Rattle.bh_port.specs.declared.groups.Entry.{Entry}
use Rattle.bh_port.specs.Entries.{entry_at, last_named, new_entry, unless_retired, without}
use Rattle.bh_port.specs.Kept.{AreNumbered}
use Rattle.bh_port.proofs.Lists.{push_before, push_here, push_past}

not_true : (b : Bool) → (b ≡ true → ⊥) → b ≡ false
not_true true h = absurd (h refl)
not_true false h = refl

-- ---- the number that was given last under a name

-- one group more has the name, or not
last_named-push : (name : List ℕ) (es : List Entry) (e : Entry) (from : ℕ) (found : Option ℕ)
    → last_named name (es ++ e ∷ []) from found ≡ (if bytes_eq e.name name then Some (from + length es) else last_named name es from found)
last_named-push name [] e from found = ap (λ n. if bytes_eq e.name name then Some n else found) (sym (add-zero from))
last_named-push name (x ∷ es) e from found =
    let same : (from + 1) + length es ≡ from + suc (length es) = omega arith in
    let later = if bytes_eq x.name name then Some from else found in
    last_named-push name es e (from + 1) later ∙ ap (λ n. if bytes_eq e.name name then Some n else last_named name es (from + 1) later) same

-- whether a group is there does not matter
last_named-set : (name : List ℕ) (es : List Entry) (from : ℕ) (found : Option ℕ) (n : ℕ) (e : Entry) → slice_get es n ≡ Some e
    → last_named name (set es n (record e { live = false })) from found ≡ last_named name es from found
last_named-set name [] from found n e at = absurd cc
last_named-set name (x ∷ es) from found zero e at =
    let same : e ≡ x = cc in ap (λ (k : Entry). last_named name es (from + 1) (if bytes_eq k.name name then Some from else found)) same
last_named-set name (x ∷ es) from found (suc n) e at = last_named-set name es (from + 1) (if bytes_eq x.name name then Some from else found) n e at

-- no group has the name
last_named-none : (name : List ℕ) (es : List Entry) (from : ℕ) (found : Option ℕ) → ((n : ℕ) (e : Entry) → slice_get es n ≡ Some e → bytes_eq e.name name ≡ true → ⊥)
    → last_named name es from found ≡ found
last_named-none name [] from found none = refl
last_named-none name (x ∷ es) from found none =
    let differs : bytes_eq x.name name ≡ false = not_true (bytes_eq x.name name) (none 0 x refl) in
    last_named-none name es (from + 1) (if bytes_eq x.name name then Some from else found) (λ n e. none (suc n) e) ∙ ap (λ b. if b then Some from else found) differs

-- the group of the highest number that has the name is the last
pub last_named_is : (name : List ℕ) (es : List Entry) (from : ℕ) (found : Option ℕ) (m : ℕ) (e : Entry) → slice_get es m ≡ Some e → bytes_eq e.name name ≡ true
    → ((n : ℕ) (d : Entry) → slice_get es n ≡ Some d → bytes_eq d.name name ≡ true → n ≤ m) → last_named name es from found ≡ Some (from + m)
last_named_is name [] from found m e at named highest = absurd cc
last_named_is name (x ∷ es) from found zero e at named highest =
    let same : e ≡ x = cc in
    last_named-none name es (from + 1) (if bytes_eq x.name name then Some from else found) (λ n d there has. let over = highest (suc n) d there has in omega (arith, over))
    ∙ ap (λ b. if b then Some from else found) (ap (λ (k : Entry). bytes_eq k.name name) (sym same) ∙ named) ∙ ap Some (sym (add-zero from))
last_named_is name (x ∷ es) from found (suc m) e at named highest =
    let same : (from + 1) + m ≡ from + suc m = omega arith in
    last_named_is name es (from + 1) (if bytes_eq x.name name then Some from else found) m e at named (λ n d there has. let below = highest (suc n) d there has in omega (arith, below)) ∙ ap Some same

-- ---- the group of a number

pub within : (es : List Entry) (n : ℕ) → (n < length es) ⊎ (length es ≤ n)
within es n = cases n (length es)
  where
    cases : (m k : ℕ) → (m < k) ⊎ (k ≤ m)
    cases m k = grind arith

pub entry_past : (es : List Entry) (n : ℕ) → length es ≤ n → entry_at es n ≡ None
entry_past es n past = ap (option_and_then unless_retired) (slice_get_past es n past)

-- a group that is there has a number below the count of all
pub entry_within : (es : List Entry) (n : ℕ) → IsSome (entry_at es n) → n < length es
entry_within es n there = elim (within es n) [
  | inl inside ↦ inside
  | inr past ↦ absurd (let none : false ≡ true = sym (ap is_some (entry_past es n past)) ∙ there in cc)
]

pub entry-push : (es : List Entry) (e : Entry) (n : ℕ) → n ≢ length es → entry_at (es ++ e ∷ []) n ≡ entry_at es n
entry-push es e n differ = elim (within es n) [
  | inl inside ↦ ap (option_and_then unless_retired) (push_before es e n inside)
  | inr past ↦ ap (option_and_then unless_retired) (push_past es e n (omega (arith, past, differ))) ∙ sym (entry_past es n past)
]

pub entry-pushed : (es : List Entry) (name : List ℕ) (place : ℕ) → entry_at (es ++ new_entry name place ∷ []) (length es) ≡ Some (new_entry name place)
entry-pushed es name place = ap (option_and_then unless_retired) (push_here es (new_entry name place))

-- a group that was retired stands at its number still
pub without_is : (es : List Entry) (n : ℕ) (e : Entry) → slice_get es n ≡ Some e → without n es ≡ set es n (record e { live = false })
without_is es n e at = ap (λ o. option_map_or (λ (k : Entry). set es n (record k { live = false })) o es) at

without_none : (es : List Entry) (n : ℕ) → slice_get es n ≡ None → without n es ≡ es
without_none es n at = ap (λ o. option_map_or (λ (k : Entry). set es n (record k { live = false })) o es) at

read : {X : Type 0} (o : Option X) → (o ≡ None) ⊎ ((x : X) × (o ≡ Some x))
read None = inl refl
read (Some x) = inr (x, refl)

pub length-without : (es : List Entry) (n : ℕ) → length (without n es) ≡ length es
length-without es n = elim (read (slice_get es n)) [
  | inl none ↦ ap length (without_none es n none)
  | inr at ↦ ap length (without_is es n at.0 at.1) ∙ length-set es n (record at.0 { live = false })
]

pub entry-without_other : (es : List Entry) (n k : ℕ) → k ≢ n → entry_at (without n es) k ≡ entry_at es k
entry-without_other es n k differ = elim (read (slice_get es n)) [
  | inl none ↦ ap (λ l. entry_at l k) (without_none es n none)
  | inr at ↦ ap (λ l. entry_at l k) (without_is es n at.0 at.1) ∙ ap (option_and_then unless_retired) (slice_get-set_other es n (record at.0 { live = false }) k differ)
]

pub entry-without_same : (es : List Entry) (n : ℕ) → entry_at (without n es) n ≡ None
entry-without_same es n = elim (read (slice_get es n)) [
  | inl none ↦ ap (λ l. entry_at l n) (without_none es n none) ∙ ap (option_and_then unless_retired) none
  | inr at ↦ ap (λ l. entry_at l n) (without_is es n at.0 at.1) ∙ ap (option_and_then unless_retired) (slice_get-set_same es n at.0 (record at.0 { live = false }) at.1)
]

-- ---- the map from names to numbers

module _ {Y S : Type 0} where
  -- no group yet
  pub numbered-none : (m : HashMap (String Y) ℕ S) → m.entries ≡ [] → AreNumbered [] m
  numbered-none m empty name = ap (lookup (λ k. bytes_eq name (string_bytes k))) empty

  -- one group more
  pub numbered-push : (es : List Entry) (m n : HashMap (String Y) ℕ S) (key : String Y) (name : List ℕ) (place : ℕ) → AreNumbered es m → Updates string_eq m n key (Some (length es)) → string_bytes key ≡ name
      → AreNumbered (es ++ new_entry name place ∷ []) n
  numbered-push es m n key name place numbered updates named q =
      hash_map_updates_text (string_bytes key) m n (Some (length es)) updates q ∙ ap (cond (bytes_eq (string_bytes key) q) (Some (length es))) (numbered q)
      ∙ ap (λ bs. cond (bytes_eq bs q) (Some (length es)) (last_named q es 0 None)) named
      ∙ sym (last_named-push q es (new_entry name place) 0 None ∙ ap (λ k. if bytes_eq name q then Some k else last_named q es 0 None) (omega arith))

  -- one group fewer
  pub numbered-without : (es : List Entry) (n : ℕ) (e : Entry) (m : HashMap (String Y) ℕ S) → slice_get es n ≡ Some e → AreNumbered es m → AreNumbered (set es n (record e { live = false })) m
  numbered-without es n e m at numbered name = numbered name ∙ sym (last_named-set name es 0 None n e at)
