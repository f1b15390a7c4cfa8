-- Commands that are sorted by their ranks and then by more have rising ranks.
use Rattle.std.proofs.Common.{◌≡◌, ◌+◌, Bool, true, false, cond, ltb, eqb, List, Ordering, Less, Equal, Greater, nat_cmp, IsSorted, IsSortedBy, get_or, refl, ltb-false}
use Rattle.std.specs.List.Sorted.{IsNonDecreasingBy}
use Rattle.std.specs.Ordering.{is_lt, ordering_then}
use Rattle.std.proofs.lemmas.List.Sorted.{IsStrictWeakOrder-by_number, sorted_far}
use Rattle.bh_draw.specs.declared.order.Ranked.{Ranked}

-- what is not less by a first test is not less by it alone
test-alone : (b : Bool) (later o : Ordering) → is_lt (ordering_then (cond b Less later) o) ≡ false → b ≡ false
test-alone true later o is = is
test-alone false later o is = refl

pub ranks-rise : (rest : Ranked → Ranked → Ordering) (xs : List Ranked) → IsSorted (λ x y. ordering_then (nat_cmp x.rank y.rank) (rest x y)) xs → IsNonDecreasingBy (λ r. r.rank) xs
ranks-rise rest xs sorted i j d le low =
    let up : IsSortedBy (λ x y. ltb x.rank y.rank) xs =
    λ k e from below. test-alone (ltb (get_or xs (k + 1) e).rank (get_or xs k e).rank) (cond (eqb (get_or xs (k + 1) e).rank (get_or xs k e).rank) Equal Greater) (rest (get_or xs (k + 1) e) (get_or xs k e)) (sorted k e from below) in
    ltb-false (get_or xs j d).rank (get_or xs i d).rank (sorted_far (λ x y. ltb x.rank y.rank) (IsStrictWeakOrder-by_number (λ r. r.rank)) xs up i j d le low)
