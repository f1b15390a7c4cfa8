-- How many tickets pass, by their places.
use Rattle.std.proofs.Common.{◌≡◌, ℕ, zero, suc, ◌+◌, ◌<◌, ◌≤◌, inl, inr, Bool, true, false, List, [], ◌∷◌, Option, Some, None, refl, sym, ap, arith}
use Rattle.std.specs.Prelude.{nat_lt, count_by, if◌then◌else◌}
use Rattle.std.proofs.lemmas.Bool.{cases_eq}
use Rattle.bh_base.specs.declared.ticket.Ticket.{Ticket}
use Rattle.bh_cache.specs.Listed.{insert, put_in, listed}
use Rattle.bh_cache.specs.Slots.{count_below, has_one, one}
use Rattle.bh_cache.proofs.Listed.{count_cons}

count_insert : (q : Ticket → Bool) (t : Ticket) (us : List Ticket) → count_by q (insert t us) ≡ one (q t) + count_by q us
count_insert q t [] = count_cons q t []
count_insert q t (u ∷ us) = by (nat_lt t.serial u.serial) (count_insert q t us)
  where
    by : (b : Bool) → count_by q (insert t us) ≡ one (q t) + count_by q us → count_by q (if b then t ∷ u ∷ us else u ∷ insert t us) ≡ one (q t) + count_by q (u ∷ us)
    by true e = count_cons q t (u ∷ us)
    by false e = omega (arith, e, count_cons q u (insert t us), count_cons q u us)

-- as many of the listed tickets pass as there are places below n with a ticket that passes
pub count_listed : (q : Ticket → Bool) (at : ℕ → Option Ticket) (n : ℕ) → count_by q (listed at n) ≡ count_below n (λ x. has_one q (at x))
count_listed q at zero = refl
count_listed q at (suc n) = by (at n) (count_listed q at n)
  where
    by : (o : Option Ticket) → count_by q (listed at n) ≡ count_below n (λ x. has_one q (at x)) → count_by q (put_in o (listed at n)) ≡ one (has_one q o) + count_below n (λ x. has_one q (at x))
    by None e = omega (arith, e)
    by (Some t) e = omega (arith, e, count_insert q t (listed at n))

same_below : (p q : ℕ → Bool) (n : ℕ) → ((y : ℕ) → y < n → q y ≡ p y) → count_below n q ≡ count_below n p
same_below p q zero same = refl
same_below p q (suc n) same = let k : one (q n) ≡ one (p n) = ap one (same n (omega arith)) in omega (arith, k, same_below p q n (λ y lt. same y (omega (arith, lt))))

-- one place changes
pub count_point : (p q : ℕ → Bool) (n x : ℕ) → x < n → ((y : ℕ) → (y ≡ x → ⊥) → q y ≡ p y) → count_below n q + one (p x) ≡ count_below n p + one (q x)
count_point p q zero x lt same = absurd (omega (arith, lt))
count_point p q (suc n) x lt same = elim (cases_eq x n) [
  | inl e ↦ let k : one (p x) ≡ one (p n) = ap (λ z. one (p z)) e in let m : one (q x) ≡ one (q n) = ap (λ z. one (q z)) e in omega (arith, k, m, same_below p q n (λ y l. same y (λ z. absurd (omega (arith, z, e, l)))))
  | inr ne ↦ let k : one (q n) ≡ one (p n) = ap one (same n (λ z. ne (sym z))) in omega (arith, k, count_point p q n x (omega (arith, lt, ne)) same)
]

-- no more pass than there are
pub count_all : (n : ℕ) (p : ℕ → Bool) → count_below n p ≤ n
count_all zero p = omega arith
count_all (suc n) p = by (p n) (count_all n p)
  where
    by : (b : Bool) → count_below n p ≤ n → one b + count_below n p ≤ suc n
    by true h = omega (arith, h)
    by false h = omega (arith, h)

-- none passes
pub count_none : (n : ℕ) (p : ℕ → Bool) → ((x : ℕ) → p x ≡ false) → count_below n p ≡ 0
count_none zero p h = refl
count_none (suc n) p h = let z : one (p n) ≡ 0 = ap one (h n) in omega (arith, z, count_none n p h)
