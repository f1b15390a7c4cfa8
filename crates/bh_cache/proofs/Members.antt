-- Members and places of a list of slots, and payloads by their slots.
use Rattle.std.proofs.Common.{◌≡◌, ℕ, zero, suc, ◌+◌, ◌<◌, ◌≤◌, inl, inr, Bool, true, false, List, [], ◌∷◌, ◌++◌, length, drop, set, take, Some, None, refl, ◌∙◌, sym, ap, arith, add-one}
use Rattle.std.specs.Prelude.{◌||◌, eqb, reverse, slice_get, if◌then◌else◌}
use Rattle.std.specs.List.{Contains}
use mathlib.Core.List.{reverse_aux}
use Rattle.std.proofs.lemmas.Bool.{cases_eq, eq-eqb, ne_eqb}
use Rattle.bh_base.specs.declared.ticket.Ticket.{Ticket}
use Rattle.bh_index_lists.proofs.Members.{IsIn, IsIn-from_Contains}
use Rattle.bh_cache.specs.Slots.{has}

-- ---- members and places

-- a slot is on two lists joined just where it is on one of them
pub has_append : (x : ℕ) (xs ys : List ℕ) → has x (xs ++ ys) ≡ (has x xs || has x ys)
has_append x [] ys = refl
has_append x (z ∷ zs) ys = ap (λ b. eqb z x || b) (has_append x zs ys) ∙ regroup (eqb z x) (has x zs) (has x ys)
  where
    regroup : (a b c : Bool) → (a || (b || c)) ≡ ((a || b) || c)
    regroup true b c = refl
    regroup false b c = refl

-- a list has the same members from its end
pub has_reverse : (x : ℕ) (xs : List ℕ) → has x (reverse xs) ≡ has x xs
has_reverse x xs = onto xs [] ∙ or_false (has x xs)
  where
    regroup : (a b c : Bool) → (b || (a || c)) ≡ ((a || b) || c)
    regroup true true c = refl
    regroup true false c = refl
    regroup false b c = refl

    onto : (ys zs : List ℕ) → has x (reverse_aux ys zs) ≡ (has x ys || has x zs)
    onto [] zs = refl
    onto (y ∷ ys) zs = onto ys (y ∷ zs) ∙ regroup (eqb y x) (has x ys) (has x zs)

    or_false : (b : Bool) → (b || false) ≡ b
    or_false true = refl
    or_false false = refl

-- a member of a list has a place on it
pub has_place : (xs : List ℕ) (x : ℕ) → has x xs ≡ true → (k : ℕ) × (slice_get xs k ≡ Some x)
has_place [] x e = absurd cc
has_place (y ∷ ys) x e = elim (cases_eq y x) [
  | inl q ↦ (0, ap Some q)
  | inr ne ↦ let r = has_place ys x (ap (λ b. b || has x ys) (sym (ne_eqb y x ne)) ∙ e) in (suc r.0, r.1)
]

-- what has a place on a list is a member of it
pub has_at : (xs : List ℕ) (k x : ℕ) → slice_get xs k ≡ Some x → has x xs ≡ true
has_at [] k x e = absurd cc
has_at (y ∷ ys) zero x e = let q : y ≡ x = cc in ap (λ b. b || has x ys) (eq-eqb y x q)
has_at (y ∷ ys) (suc k) x e = ap (λ b. eqb y x || b) (has_at ys k x e) ∙ or_true (eqb y x)
  where
    or_true : (b : Bool) → (b || true) ≡ true
    or_true true = refl
    or_true false = refl

-- what a list contains is a member of it
pub has_contained : (xs : List ℕ) (x : ℕ) → Contains xs x → has x xs ≡ true
has_contained xs x h = by xs (IsIn-from_Contains x xs h)
  where
    or_true : (b : Bool) → (b || true) ≡ true
    or_true true = refl
    or_true false = refl

    by : (ys : List ℕ) → IsIn x ys → has x ys ≡ true
    by [] i = absurd i
    by (y ∷ ys) (inl e) = ap (λ b. b || has x ys) (eq-eqb y x e)
    by (y ∷ ys) (inr i) = ap (λ b. eqb y x || b) (by ys i) ∙ or_true (eqb y x)

-- ---- what is ahead of a place, and what is behind it

-- what is left of a list from a place on is the slot at that place, and what is left from the next on
pub drop_at : (xs : List ℕ) (i x : ℕ) → slice_get xs i ≡ Some x → drop i xs ≡ x ∷ drop (suc i) xs
drop_at [] zero x e = absurd cc
drop_at [] (suc i) x e = absurd cc
drop_at (y ∷ ys) zero x e = let k : y ≡ x = cc in ap (λ z. z ∷ ys) k
drop_at (y ∷ ys) (suc i) x e = drop_at ys i x e

-- from a place on that has no slot, nothing is left
pub drop_past : (xs : List ℕ) (i : ℕ) → slice_get xs i ≡ None → drop i xs ≡ []
drop_past [] zero e = refl
drop_past [] (suc i) e = refl
drop_past (y ∷ ys) zero e = absurd cc
drop_past (y ∷ ys) (suc i) e = drop_past ys i e

-- from the end of a list on, nothing is left
pub drop_end : (xs : List ℕ) (i : ℕ) → length xs ≤ i → drop i xs ≡ []
drop_end [] zero h = refl
drop_end [] (suc i) h = refl
drop_end (y ∷ ys) zero h = absurd (omega (arith, h))
drop_end (y ∷ ys) (suc i) h = drop_end ys i (omega (arith, h))

-- one place more
pub take_one_more : (xs : List ℕ) (i x : ℕ) → slice_get xs i ≡ Some x → take (i + 1) xs ≡ take i xs ++ x ∷ []
take_one_more xs i x e = ap (λ k. take k xs) (add-one i) ∙ at xs i e
  where
    at : (ys : List ℕ) (k : ℕ) → slice_get ys k ≡ Some x → take (suc k) ys ≡ take k ys ++ x ∷ []
    at [] k e = absurd cc
    at (y ∷ ys) zero e = let q : y ≡ x = cc in ap (λ z. z ∷ []) q
    at (y ∷ ys) (suc k) e = ap (λ zs. y ∷ zs) (at ys k e)

-- ---- payloads

get_set_same : (xs : List Ticket) (i : ℕ) (v : Ticket) → i < length xs → slice_get (set xs i v) i ≡ Some v
get_set_same [] i v lt = absurd (omega (arith, lt))
get_set_same (x ∷ xs) zero v lt = refl
get_set_same (x ∷ xs) (suc i) v lt = get_set_same xs i v (omega (arith, lt))

get_set_other : (xs : List Ticket) (i j : ℕ) (v : Ticket) → (j ≡ i → ⊥) → slice_get (set xs i v) j ≡ slice_get xs j
get_set_other [] i j v ne = refl
get_set_other (x ∷ xs) zero zero v ne = absurd (ne refl)
get_set_other (x ∷ xs) zero (suc j) v ne = refl
get_set_other (x ∷ xs) (suc i) zero v ne = refl
get_set_other (x ∷ xs) (suc i) (suc j) v ne = get_set_other xs i j v (λ e. ne (ap suc e))

-- a payload that is written
pub get_set : (xs : List Ticket) (i j : ℕ) (v : Ticket) → i < length xs → slice_get (set xs i v) j ≡ (if eqb j i then Some v else slice_get xs j)
get_set xs i j v lt = elim (cases_eq j i) [
  | inl e ↦ ap (slice_get (set xs i v)) e ∙ get_set_same xs i v lt ∙ sym (ap (λ b. if b then Some v else slice_get xs j) (eq-eqb j i e))
  | inr ne ↦ get_set_other xs i j v ne ∙ sym (ap (λ b. if b then Some v else slice_get xs j) (ne_eqb j i ne))
]

-- a slot that has a payload is below the number of payloads
pub get_within : (xs : List Ticket) (i : ℕ) (v : Ticket) → slice_get xs i ≡ Some v → i < length xs
get_within [] i v e = absurd cc
get_within (x ∷ xs) zero v e = omega arith
get_within (x ∷ xs) (suc i) v e = let lt : i < length xs = get_within xs i v e in omega (arith, lt)
