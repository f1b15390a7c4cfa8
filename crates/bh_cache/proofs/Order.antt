-- Slots along a list whose serials rise, and how many numbers pass a test.
use Rattle.std.proofs.Common.{◌≡◌, ℕ, zero, suc, ◌+◌, ◌<◌, ◌≤◌, inl, inr, Bool, true, false, not, cond, List, [], ◌∷◌, ◌++◌, length, Option, Some, None, refl, ◌∙◌, sym, ap, subst, arith}
use Rattle.std.specs.Prelude.{◌||◌, eqb, nat_lt, slice_get, if◌then◌else◌}
use Rattle.std.specs.Option.{is_some}
use Rattle.std.proofs.lemmas.Bool.{cases_eq, eq-eqb, ne_eqb}
use Rattle.bh_base.specs.declared.ticket.Ticket.{Ticket}
use Rattle.bh_index_lists.specs.Lists.{without}
use Rattle.bh_cache.specs.Slots.{has, serial_in, Later, InOrder, count_below, one}
use Rattle.bh_cache.specs.Listed.{insert, put_in, listed}

has_first : (y : ℕ) (ys : List ℕ) → has y (y ∷ ys) ≡ true
has_first y ys = ap (λ b. b || has y ys) (eq-eqb y y refl)

has_rest : (y z : ℕ) (ys : List ℕ) → has y ys ≡ true → has y (z ∷ ys) ≡ true
has_rest y z ys h = ap (λ b. eqb z y || b) h ∙ or_true (eqb z y)
  where
    or_true : (b : Bool) → (b || true) ≡ true
    or_true true = refl
    or_true false = refl

later_same : (ps qs : List Ticket) (s r : ℕ) (xs : List ℕ) → r ≡ s → ((y : ℕ) → has y xs ≡ true → serial_in (slice_get qs y) ≡ serial_in (slice_get ps y)) → Later ps s xs → Later qs r xs
later_same ps qs s r [] e same h = tt
later_same ps qs s r (x ∷ xs) e same h =
    let k : serial_in (slice_get qs x) ≡ serial_in (slice_get ps x) = same x (has_first x xs) in
    (omega (arith, h.0, k, e), later_same ps qs s r xs e (λ y i. same y (has_rest y x xs i)) h.1)

-- serials that rise along a list still rise where each slot of it has a payload of the same serial
pub order_same : (ps qs : List Ticket) (xs : List ℕ) → ((y : ℕ) → has y xs ≡ true → serial_in (slice_get qs y) ≡ serial_in (slice_get ps y)) → InOrder ps xs → InOrder qs xs
order_same ps qs [] same h = tt
order_same ps qs (x ∷ xs) same h = (later_same ps qs (serial_in (slice_get ps x)) (serial_in (slice_get qs x)) xs (same x (has_first x xs)) (λ y i. same y (has_rest y x xs i)) h.0, order_same ps qs xs (λ y i. same y (has_rest y x xs i)) h.1)

later_without : (ps : List Ticket) (s x : ℕ) (xs : List ℕ) → Later ps s xs → Later ps s (without x xs)
later_without ps s x [] h = tt
later_without ps s x (y ∷ ys) h = by (eqb y x) (later_without ps s x ys h.1)
  where
    by : (b : Bool) → Later ps s (without x ys) → Later ps s (cond (not b) (y ∷ without x ys) (without x ys))
    by true r = r
    by false r = (h.0, r)

-- serials that rise along a list still rise without a slot
pub order_without : (ps : List Ticket) (x : ℕ) (xs : List ℕ) → InOrder ps xs → InOrder ps (without x xs)
order_without ps x [] h = tt
order_without ps x (y ∷ ys) h = by (eqb y x) (order_without ps x ys h.1)
  where
    by : (b : Bool) → InOrder ps (without x ys) → InOrder ps (cond (not b) (y ∷ without x ys) (without x ys))
    by true r = r
    by false r = (later_without ps (serial_in (slice_get ps y)) x ys h.0, r)

later_append : (ps : List Ticket) (s x : ℕ) (xs : List ℕ) → Later ps s xs → s < serial_in (slice_get ps x) → Later ps s (xs ++ x ∷ [])
later_append ps s x [] h lt = (lt, tt)
later_append ps s x (y ∷ ys) h lt = (h.0, later_append ps s x ys h.1 lt)

-- serials that rise along a list still rise with a slot of a greater serial put last
pub order_append : (ps : List Ticket) (x : ℕ) (xs : List ℕ) → InOrder ps xs → ((y : ℕ) → has y xs ≡ true → serial_in (slice_get ps y) < serial_in (slice_get ps x)) → InOrder ps (xs ++ x ∷ [])
order_append ps x [] h less = (tt, tt)
order_append ps x (y ∷ ys) h less = (later_append ps (serial_in (slice_get ps y)) x ys h.0 (less y (has_first y ys)), order_append ps x ys h.1 (λ z i. less z (has_rest z y ys i)))

later_each : (ps : List Ticket) (s y : ℕ) (xs : List ℕ) → Later ps s xs → has y xs ≡ true → s < serial_in (slice_get ps y)
later_each ps s y [] h i = absurd cc
later_each ps s y (x ∷ xs) h i = elim (cases_eq x y) [
  | inl e ↦ subst (λ z. s < serial_in (slice_get ps z)) e h.0
  | inr ne ↦ later_each ps s y xs h.1 (ap (λ b. b || has y xs) (sym (ne_eqb x y ne)) ∙ i)
]

-- the first of the list has the least serial
pub first_least : (ps : List Ticket) (x y : ℕ) (xs : List ℕ) → InOrder ps (x ∷ xs) → has y (x ∷ xs) ≡ true → serial_in (slice_get ps x) ≤ serial_in (slice_get ps y)
first_least ps x y xs h i = elim (cases_eq x y) [
  | inl e ↦ subst (λ z. serial_in (slice_get ps x) ≤ serial_in (slice_get ps z)) e (omega arith)
  | inr ne ↦ let lt : serial_in (slice_get ps x) < serial_in (slice_get ps y) = later_each ps (serial_in (slice_get ps x)) y xs h.0 (ap (λ b. b || has y xs) (sym (ne_eqb x y ne)) ∙ i) in omega (arith, lt)
]

-- the head of a list of slots
pub front_is : (x : ℕ) (xs : List ℕ) → slice_get xs 0 ≡ Some x → (ys : List ℕ) × (xs ≡ x ∷ ys)
front_is x [] e = absurd cc
front_is x (y ∷ ys) e = let k : y ≡ x = cc in (ys, ap (λ z. z ∷ ys) k)

-- a list that has no first slot is empty
pub front_none : (xs : List ℕ) → slice_get xs 0 ≡ None → xs ≡ []
front_none [] e = refl
front_none (y ∷ ys) e = absurd cc

-- the first slot of a list is on it
pub front_on : (x : ℕ) (xs : List ℕ) → slice_get xs 0 ≡ Some x → has x xs ≡ true
front_on x xs e = let r = front_is x xs e in ap (has x) r.1 ∙ has_first x r.0

-- ---- how many

-- where two tests say the same of each number, as many pass the one as the other
pub count_same : (p q : ℕ → Bool) (n : ℕ) → ((x : ℕ) → p x ≡ q x) → count_below n p ≡ count_below n q
count_same p q zero same = refl
count_same p q (suc n) same = let k : one (p n) ≡ one (q n) = ap one (same n) in omega (arith, k, count_same p q n same)

-- where c is true whenever b is, b counts for no more than c
pub one_le : (b c : Bool) → (b ≡ true → c ≡ true) → one b ≤ one c
one_le true true h = omega arith
one_le true false h = let k : false ≡ true = h refl in absurd cc
one_le false c h = omega arith

-- where each number that passes p passes q, no more pass p than q
pub count_le : (p q : ℕ → Bool) (n : ℕ) → ((x : ℕ) → p x ≡ true → q x ≡ true) → count_below n p ≤ count_below n q
count_le p q zero h = omega arith
count_le p q (suc n) h = omega (arith, one_le (p n) (q n) (h n), count_le p q n h)

-- and fewer do, where a number below n passes q alone
pub count_lt : (p q : ℕ → Bool) (n x : ℕ) → x < n → ((x : ℕ) → p x ≡ true → q x ≡ true) → p x ≡ false → q x ≡ true → count_below n p < count_below n q
count_lt p q zero x lt h a b = absurd (omega (arith, lt))
count_lt p q (suc n) x lt h no' yes' = elim (cases_eq x n) [
  | inl e ↦
      let k : one (p n) ≡ 0 = ap (λ z. one (p z)) (sym e) ∙ ap one no' in
      let l : one (q n) ≡ 1 = ap (λ z. one (q z)) (sym e) ∙ ap one yes' in
      omega (arith, k, l, count_le p q n h)
  | inr ne ↦ omega (arith, one_le (p n) (q n) (h n), count_lt p q n x (omega (arith, lt, ne)) h no' yes')
]

length_insert : (t : Ticket) (us : List Ticket) → length (insert t us) ≡ length us + 1
length_insert t [] = omega arith
length_insert t (u ∷ us) = by (nat_lt t.serial u.serial) (length_insert t us)
  where
    by : (b : Bool) → length (insert t us) ≡ length us + 1 → length (if b then t ∷ u ∷ us else u ∷ insert t us) ≡ length (u ∷ us) + 1
    by true r = omega arith
    by false r = omega (arith, r)

-- as many tickets are listed as there are places below n that have one
pub length_listed : (at : ℕ → Option Ticket) (p : ℕ → Bool) (n : ℕ) → ((x : ℕ) → x < n → p x ≡ is_some (at x)) → length (listed at n) ≡ count_below n p
length_listed at p zero h = refl
length_listed at p (suc n) h = by (at n) (h n (omega arith)) (length_listed at p n (λ x lt. h x (omega (arith, lt))))
  where
    by : (o : Option Ticket) → p n ≡ is_some o → length (listed at n) ≡ count_below n p → length (put_in o (listed at n)) ≡ one (p n) + count_below n p
    by None e r = omega (arith, ap one e, r)
    by (Some t) e r = omega (arith, ap one e, r, length_insert t (listed at n))
