-- Which connections are told to look again.
use Rattle.std.proofs.Common.{◌≡◌, ◌≢◌, ◌∙◌, ◌⊎◌, ◌+◌, ◌^◌, ◌/◌, ◌*◌, ◌%◌, ◌<◌, ◌≤◌, ℕ, Bool, true, false, ◌&&◌, ◌||◌, ◌==◌, not, List, length, take, max, slice_get, slice_index_or, Option, None, refl, ap, sym, inl, inr, arith, w64}
use Rattle.std.specs.Prelude.{bit_and, bit_or, nat_lt}
use Rattle.std.specs.Int.{bit_at}
use Rattle.std.specs.List.{list_any}
use Rattle.std.proofs.lemmas.Bool.Decides.{nat_tests}
use Rattle.std.proofs.lemmas.List.Folds.{list_any_more}
use Rattle.std.proofs.lemmas.Nat.Bits.{bit_at-lt, bit_at-zero, bit_at_or, bit_at_set_other, bit_at_set_same, shr_and_one}
use Rattle.std.proofs.lemmas.Option.{slice_get-get_or, slice_get_cases}
use Rattle.bh_base.specs.declared.step.GroupId.{GroupId}
use Rattle.bh_core.specs.CoreView.{CoreView}
use Rattle.bh_sharing.specs.declared.waiters.Waiter.{Waiter}
use Rattle.bh_sharing.specs.Waiters.{is_ready, is_ready_in, is_ready_to_run, is_told, is_told_anyhow, wants_run}

-- a test is true or false
shown : (b : Bool) → (b ≡ true) ⊎ (b ≡ false)
shown true = inl refl
shown false = inr refl

and_false : (b : Bool) → (b && false) ≡ false
and_false true = refl
and_false false = refl

below : (k n : ℕ) → k < n → nat_lt k n ≡ true
below k n h = grind (arith, nat_tests)

not_below : (k n : ℕ) → n ≤ k → nat_lt k n ≡ false
not_below k n h = grind (arith, nat_tests)

same_number : (j k : ℕ) → (j == k) ≡ true → j ≡ k
same_number j k h = grind (arith, nat_tests)

other_number : (j k : ℕ) → (j == k) ≡ false → j ≢ k
other_number j k h = λ e. (let both : true ≡ false = sym (is_same j k e) ∙ h in absurd cc)
  where
    is_same : (a b : ℕ) → a ≡ b → (a == b) ≡ true
    is_same a b e = grind (arith, nat_tests)

-- no number is one of none
pub in-none : (k : ℕ) → (nat_lt k 64 && (bit_at 0 k == 1)) ≡ false
in-none k = rw (bit_at-zero k) (and_false (nat_lt k 64))

pub in-zero : (n : ℕ) → (n == 0) ≡ true → (k : ℕ) → (nat_lt k 64 && (bit_at n k == 1)) ≡ false
in-zero n h = λ k. rw (same_number n 0 h) (in-none k)

-- whether a number is one of these
pub in-below : (n k : ℕ) → k < 64 → (bit_and (n / 2 ^ k) 1 == 1) ≡ (nat_lt k 64 && (bit_at n k == 1))
in-below n k h = rw (shr_and_one n k, below k 64 h) refl

pub in-beyond : (n k : ℕ) → 64 ≤ k → false ≡ (nat_lt k 64 && (bit_at n k == 1))
in-beyond n k h = rw (not_below k 64 h) refl

-- the greater of two bits
max_bits : (a b : ℕ) → a < 2 → b < 2 → (max a b == 1) ≡ ((a == 1) || (b == 1))
max_bits a b p q = grind (arith, nat_tests)

spread : (c a b : Bool) → (c && (a || b)) ≡ ((c && a) || (c && b))
spread true a b = refl
spread false a b = refl

pub in-both : (a b k : ℕ) → (nat_lt k 64 && (bit_at (bit_or a b) k == 1)) ≡ ((nat_lt k 64 && (bit_at a k == 1)) || (nat_lt k 64 && (bit_at b k == 1)))
in-both a b k =
    rw (bit_at_or a b k, max_bits (bit_at a k) (bit_at b k) (bit_at-lt a k) (bit_at-lt b k)) (spread (nat_lt k 64) (bit_at a k == 1) (bit_at b k == 1))

or_true : (b : Bool) → (b || true) ≡ true
or_true true = refl
or_true false = refl

or_false : (b : Bool) → (b || false) ≡ b
or_false true = refl
or_false false = refl

-- one number more
pub in-one_more : (n k j : ℕ) → k < 64 → (nat_lt j 64 && (bit_at (bit_or n (1 * 2 ^ k % 2 ^ 64)) j == 1)) ≡ ((nat_lt j 64 && (bit_at n j == 1)) || (nat_lt j 64 && (j == k)))
in-one_more n k j h = elim (shown (j == k)) [
  | inl same ↦ (let e : j ≡ k = same_number j k same in
      rw (e, bit_at_set_same w64 n k h, below k 64 h) (sym (ap (λ (b : Bool). (bit_at n k == 1) || b) (same_test k) ∙ or_true (bit_at n k == 1))))
  | inr other ↦ (rw (bit_at_set_other w64 n k h j (other_number j k other), other)
      (sym (ap (λ (b : Bool). (nat_lt j 64 && (bit_at n j == 1)) || b) (and_false (nat_lt j 64)) ∙ or_false (nat_lt j 64 && (bit_at n j == 1)))))
]
  where
    same_test : (m : ℕ) → (m == m) ≡ true
    same_test m = grind (arith, nat_tests)

pub in-no_more : (n k j : ℕ) → 64 ≤ k → (nat_lt j 64 && (bit_at n j == 1)) ≡ ((nat_lt j 64 && (bit_at n j == 1)) || (nat_lt j 64 && (j == k)))
in-no_more n k j h = elim (shown (j == k)) [
  | inl same ↦ (let e : j ≡ k = same_number j k same in rw (e, not_below k 64 h) refl)
  | inr other ↦ (rw other (sym (ap (λ (b : Bool). (nat_lt j 64 && (bit_at n j == 1)) || b) (and_false (nat_lt j 64)) ∙ or_false (nat_lt j 64 && (bit_at n j == 1)))))
]

-- Those of the first numbers that pass a test.
abbrev pub AreFirst : (ℕ → Bool) → ℕ → (ℕ → Bool) → Type 0
AreFirst p i numbers = (k : ℕ) → numbers k ≡ (nat_lt k 64 && (nat_lt k i && p k))

pub first-none : (p numbers : ℕ → Bool) → ((k : ℕ) → numbers k ≡ false) → AreFirst p 0 numbers
first-none p numbers none = λ k. none k ∙ sym (rw (not_below k 0 (omega arith)) (and_false (nat_lt k 64)))

-- one more passes it
pub first-more : (p numbers with : ℕ → Bool) (i : ℕ) → p i ≡ true → AreFirst p i numbers → ((k : ℕ) → with k ≡ (numbers k || (nat_lt k 64 && (k == i)))) → AreFirst p (i + 1) with
first-more p numbers with i passes first is = λ k. elim (shown (k == i)) [
  | inl same ↦ (let e : k ≡ i = same_number k i same in
      is k ∙ rw (same, e, passes, below i (i + 1) (omega arith)) (or_and (numbers i) (nat_lt i 64) (nat_lt i i && p i) (first i)))
  | inr other ↦ (is k ∙ rw (other, and_false (nat_lt k 64)) (or_false (numbers k) ∙ first k ∙ ap (λ (b : Bool). nat_lt k 64 && (b && p k)) (next k i (other_number k i other))))
]
  where
    or_and : (n c r : Bool) → n ≡ (c && r) → (n || (c && true)) ≡ (c && true)
    or_and n true r h = or_true n
    or_and n false r h = rw h refl

    next : (k i : ℕ) → k ≢ i → nat_lt k i ≡ nat_lt k (i + 1)
    next k i h = grind (arith, nat_tests)

-- one more fails it
pub first-same : (p numbers : ℕ → Bool) (i : ℕ) → p i ≡ false → AreFirst p i numbers → AreFirst p (i + 1) numbers
first-same p numbers i fails first = λ k. elim (shown (k == i)) [
  | inl same ↦ (let e : k ≡ i = same_number k i same in first k ∙ rw (e, fails) (ap (λ (b : Bool). nat_lt i 64 && b) (and_false (nat_lt i i) ∙ sym (and_false (nat_lt i (i + 1))))))
  | inr other ↦ (first k ∙ ap (λ (b : Bool). nat_lt k 64 && (b && p k)) (next k i (other_number k i other)))
]
  where
    next : (k i : ℕ) → k ≢ i → nat_lt k i ≡ nat_lt k (i + 1)
    next k i h = grind (arith, nat_tests)

-- those are all, where none beyond passes it
pub first-all : (p numbers : ℕ → Bool) (n : ℕ) → ((k : ℕ) → n ≤ k → p k ≡ false) → AreFirst p n numbers → (k : ℕ) → numbers k ≡ (nat_lt k 64 && p k)
first-all p numbers n beyond first = λ k. elim (shown (nat_lt k n)) [
  | inl within ↦ (first k ∙ rw within refl)
  | inr out ↦ (first k ∙ rw (out, beyond k (above k n out)) refl)
]
  where
    above : (k n : ℕ) → nat_lt k n ≡ false → n ≤ k
    above k n h = grind (arith, nat_tests)

none_beyond : {X : Type 0} (xs : List X) (k : ℕ) → length xs ≤ k → slice_get xs k ≡ None
none_beyond xs k h = elim (slice_get_cases xs k).1 [ inl w ↦ absurd (omega (arith, w.1, h)) | inr w ↦ w.1 ]

-- who is told, whatever the group
pub anyhow-at : (groups : CoreView) (places : List (Option Waiter)) (i : ℕ) (d : Option Waiter) (b : Bool) → i < length places → b ≡ is_ready groups (slice_index_or places i d) → is_told_anyhow groups places i ≡ b
anyhow-at groups places i d b h r = rw (slice_get-get_or places i d h) (sym r)

pub anyhow-beyond : (groups : CoreView) (places : List (Option Waiter)) (k : ℕ) → length places ≤ k → is_told_anyhow groups places k ≡ false
anyhow-beyond groups places k h = rw (none_beyond places k h) refl

-- who is told in the group
pub told-at : (groups : CoreView) (group : GroupId) (places : List (Option Waiter)) (i : ℕ) (d : Option Waiter) (before ready wants told : Bool)
    → i < length places → before ≡ list_any (is_ready_to_run groups group) (take i places) → ready ≡ is_ready_in groups group (slice_index_or places i d)
    → wants ≡ wants_run (slice_index_or places i d) → told ≡ (ready && not (wants && before)) → is_told groups group places i ≡ told
told-at groups group places i d before ready wants told h b r w t = rw (slice_get-get_or places i d h, ← r, ← w, ← b) (sym t)

pub told-beyond : (groups : CoreView) (group : GroupId) (places : List (Option Waiter)) (k : ℕ) → length places ≤ k → is_told groups group places k ≡ false
told-beyond groups group places k h = rw (none_beyond places k h) refl

-- whether one that is ready for a run stands before
pub run-more : (groups : CoreView) (group : GroupId) (places : List (Option Waiter)) (i : ℕ) (d : Option Waiter) (before ready wants after : Bool)
    → i < length places → before ≡ list_any (is_ready_to_run groups group) (take i places) → ready ≡ is_ready_in groups group (slice_index_or places i d)
    → wants ≡ wants_run (slice_index_or places i d) → after ≡ (before || (ready && wants)) → after ≡ list_any (is_ready_to_run groups group) (take (i + 1) places)
run-more groups group places i d before ready wants after h b r w a = rw (list_any_more (is_ready_to_run groups group) places i d h, ← r, ← w, ← b) a
