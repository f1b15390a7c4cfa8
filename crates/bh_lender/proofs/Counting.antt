-- Holders that are left, one more or one less.
use Rattle.std.proofs.Common.{◌≡◌, ◌<◌, ◌+◌, ◌-◌, ◌||◌, ◌∙◌, ℕ, zero, suc, Bool, true, false, cond, List, [], ◌∷◌, ◌++◌, filter, length, remove, slice_index_or, slice_set, take, refl, ap, sym, arith}
use Rattle.std.specs.Prelude.{nat_lt}
use Rattle.std.specs.List.{list_any, sum_by}
use Rattle.std.proofs.lemmas.Bool.Decides.{nat_tests}
use Rattle.std.proofs.lemmas.List.{append-nil}
use Rattle.std.proofs.lemmas.List.Elements.{filter_more}
use Rattle.std.proofs.lemmas.List.Sums.{sum_by-remove, sum_by-set}
use Rattle.bh_base.specs.declared.step.GroupId.{GroupId}
use Rattle.bh_lease.specs.declared.lease.Lease.{Lease}
use Rattle.bh_lease.specs.Leases.{IsFirst}
use Rattle.bh_lender.specs.declared.lender.Left.{Left}
use Rattle.bh_lender.specs.Lender.{left_with}
use Rattle.bh_lender.specs.Settling.{counts_more, with_holder, without_holder}

-- one for each entry, and one for each holder
abbrev pub holders : List Left → ℕ
holders left = sum_by (λ (l : Left). l.number + 1) left

-- the first entry that counts one more does
pub first_counts : (group : GroupId) (serial : ℕ) (ls : List Left) (k : ℕ) (x : Left) → IsFirst (counts_more group serial) ls k → x ≡ slice_index_or ls k x → with_holder group serial ls ≡ slice_set ls k (record x { number = x.number + 1 })
first_counts group serial [] k x first at = absurd first
first_counts group serial (l ∷ ls) zero x first at =
    let same : l ≡ x = sym at in
    ap (λ b. cond b (record l { number = l.number + 1 } ∷ ls) (l ∷ with_holder group serial ls)) first
    ∙ ap (λ (y : Left). record y { number = y.number + 1 } ∷ ls) same
first_counts group serial (l ∷ ls) (suc k) x first at =
    ap (λ b. cond b (record l { number = l.number + 1 } ∷ ls) (l ∷ with_holder group serial ls)) first.0
    ∙ ap (λ (xs : List Left). l ∷ xs) (first_counts group serial ls k x first.1 at)

-- and where none does, an entry stands behind the others
pub none_counts : (group : GroupId) (serial : ℕ) (ls : List Left) → list_any (counts_more group serial) ls ≡ false → with_holder group serial ls ≡ ls ++ record { group = group; serial = serial; number = 1 } ∷ []
none_counts group serial [] none = refl
none_counts group serial (l ∷ ls) none = at (counts_more group serial l) none (none_counts group serial ls)
  where
    at : (b : Bool) → (b || list_any (counts_more group serial) ls) ≡ false → (list_any (counts_more group serial) ls ≡ false → with_holder group serial ls ≡ ls ++ record { group = group; serial = serial; number = 1 } ∷ []) → cond b (record l { number = l.number + 1 } ∷ ls) (l ∷ with_holder group serial ls) ≡ l ∷ (ls ++ record { group = group; serial = serial; number = 1 } ∷ [])
    at true passes later = absurd cc
    at false passes later = ap (λ (xs : List Left). l ∷ xs) (later passes)

-- the holders of leases, and then one more
with_last : (ls : List Lease) (l : Lease) (left : List Left) → left_with (ls ++ l ∷ []) left ≡ with_holder l.group l.serial (left_with ls left)
with_last [] l left = refl
with_last (x ∷ xs) l left = with_last xs l (with_holder x.group x.serial left)

-- the leases up to a place that hold, where that at the place holds
pub one_leaves : (p : Lease → Bool) (leases : List Lease) (i : ℕ) (d : Lease) (left : List Left) → i < length leases → p (slice_index_or leases i d) ≡ true
    → left_with (filter p (take (i + 1) leases)) left ≡ with_holder (slice_index_or leases i d).group (slice_index_or leases i d).serial (left_with (filter p (take i leases)) left)
one_leaves p leases i d left within holds =
    ap (λ (ls : List Lease). left_with ls left) (filter_more p leases i d within ∙ ap (λ b. filter p (take i leases) ++ cond b (slice_index_or leases i d ∷ []) []) holds)
    ∙ with_last (filter p (take i leases)) (slice_index_or leases i d) left

-- and where it does not
pub none_leaves : (p : Lease → Bool) (leases : List Lease) (i : ℕ) (d : Lease) (left : List Left) → i < length leases → p (slice_index_or leases i d) ≡ false
    → left_with (filter p (take (i + 1) leases)) left ≡ left_with (filter p (take i leases)) left
none_leaves p leases i d left within holds =
    ap (λ (ls : List Lease). left_with ls left)
    (filter_more p leases i d within ∙ ap (λ b. filter p (take i leases) ++ cond b (slice_index_or leases i d ∷ []) []) holds ∙ append-nil (filter p (take i leases)))

above_one : (n : ℕ) → nat_lt 1 n ≡ true → 1 < n
above_one n is = grind (arith, nat_tests)

-- one less is fewer
pub fewer : (x : Left) (ls : List Left) (k : ℕ) → k < length ls → x ≡ slice_index_or ls k x → holders (without_holder x ls k) < holders ls
fewer x ls k within at = by (nat_lt 1 x.number) refl
  where
    count : Left → ℕ
    count l = l.number + 1

    here : count (slice_index_or ls k x) ≡ count x
    here = ap count (sym at)

    by : (b : Bool) → nat_lt 1 x.number ≡ b → sum_by count (cond b (slice_set ls k (record x { number = x.number - 1 })) (remove ls k)) < sum_by count ls
    by true more =
        let some : 1 < x.number = above_one x.number more in
        omega (arith, sum_by-set count ls k (record x { number = x.number - 1 }) x within, here, some)
    by false last = omega (arith, sum_by-remove count ls k x within, here)
