-- Counts of times by grade, and what they say of ranks.
use Rattle.std.proofs.Common.{◌≡◌, ℕ, ◌+◌, ◌-◌, ◌<◌, ◌≤◌, Bool, cond, List, [], ◌∷◌, ◌++◌, length, get_or, set, take, min, max, suc, sym, ap, ◌∙◌, subst, ⊎_elim, refl, arith}
use Prim.Native.Nat.{zero}
use Rattle.std.specs.Prelude.{◌&&◌, nat_lt, nat_le, sum, count_by}
use Rattle.std.proofs.lemmas.Bool.{cases_lt}
use Rattle.std.proofs.lemmas.List.{get_or_append_left, get_or_past, get_or-append_right, get_or-set_same, length-append}
use Rattle.std.proofs.lemmas.List.Sums.{sum_by-cons, sum_by_more, sum_by-le-sum_by}
use Rattle.bh_look.specs.Times.{IsNear, IsOfRank, begin, is_graded, least_of, most_of}
use Rattle.bh_look.specs.Inside.{IsPadded, IsRanked}
use Rattle.bh_look.proofs.Grades.{begin-low, begin-rises}

only_zero : (k : ℕ) → get_or {A = ℕ} (0 ∷ []) k 0 ≡ 0
only_zero zero = refl
only_zero (suc k) = get_or_past (0 ∷ []) (suc k) 0 (omega arith)

-- a zero behind numbers changes none
pub zero_behind : (xs : List ℕ) (k : ℕ) → get_or (xs ++ 0 ∷ []) k 0 ≡ get_or xs k 0
zero_behind xs k =
    ⊎_elim (λ (within : k < length xs). get_or_append_left xs (0 ∷ []) 0 k within)
    (λ (past : length xs ≤ k). get_or-append_right xs (0 ∷ []) (length xs) k 0 refl past ∙ only_zero (k - length xs) ∙ sym (get_or_past xs k 0 past))
    (cases_lt k (length xs))

-- what an element adds to a count
abbrev pub one : Bool → ℕ
one b = cond b 1 0

one_split : (a b t : ℕ) → a ≤ b → one (nat_lt t b) ≡ one (nat_lt t a) + one (nat_le a t && nat_lt t b)
one_split a b t le = grind arith

-- of the times before the end of a grade, those before its begin and those of it
pub graded_split : (g : ℕ) (ts : List ℕ) → count_by (λ t. nat_lt t (begin (g + 1))) ts ≡ count_by (λ t. nat_lt t (begin g)) ts + count_by (is_graded g) ts
graded_split g [] = refl
graded_split g (t ∷ ts) =
    let rest = graded_split g ts in
    let first = one_split (begin g) (begin (g + 1)) t (omega (arith, begin-rises g)) in
    omega (arith, rest, first, sum_by-cons (λ (u : ℕ). cond (nat_lt u (begin (g + 1))) 1 0) t ts, sum_by-cons (λ (u : ℕ). one (nat_lt u (begin g))) t ts, sum_by-cons (λ (u : ℕ). one (is_graded g u)) t ts)

not_below : (t : ℕ) → one (nat_lt t 0) ≡ 0
not_below t = grind arith

none_below : (ts : List ℕ) → count_by (λ t. nat_lt t (begin 0)) ts ≡ 0
none_below [] = refl
none_below (t ∷ ts) =
    let none : one (nat_lt t (begin 0)) ≡ 0 = ap (λ b. one (nat_lt t b)) (begin-low 0 (omega arith)) ∙ not_below t in
    omega (arith, none_below ts, none, sum_by-cons (λ (u : ℕ). one (nat_lt u (begin 0))) t ts)

-- the numbers of the first grades are those of the times before the next one
pub counted_below : (numbers ts : List ℕ) → ((g : ℕ) → get_or numbers g 0 ≡ count_by (is_graded g) ts) → (i : ℕ) → i ≤ length numbers → sum (take i numbers) ≡ count_by (λ t. nat_lt t (begin i)) ts
counted_below numbers ts are zero le = sym (none_below ts)
counted_below numbers ts are (suc i) le =
    let more : sum (take (i + 1) numbers) ≡ sum (take i numbers) + get_or numbers i 0 = sum_by_more (λ x. x) numbers i 0 (omega (arith, le)) in
    let split = graded_split i ts in
    let next : i + 1 ≡ suc i = omega arith in
    subst (λ n. sum (take n numbers) ≡ count_by (λ t. nat_lt t (begin n)) ts) next (omega (arith, more, split, are i, counted_below numbers ts are i (omega (arith, le))))

one_within : (a b t : ℕ) → a < b → one (nat_le t a) ≤ one (nat_lt t b)
one_within a b t lt = grind arith

one_under : (a b t : ℕ) → a ≤ b → one (nat_lt t a) ≤ one (nat_lt t b)
one_under a b t le = grind arith

-- a time of the rank is of the grade at which the numbers come to it
pub of_grade : (numbers ts : List ℕ) (rank b x : ℕ) → ((g : ℕ) → get_or numbers g 0 ≡ count_by (is_graded g) ts) → 0 < rank → IsRanked rank b numbers → IsOfRank rank ts x → (begin b ≤ x) × (x < begin (b + 1))
of_grade numbers ts rank b x are pos at of =
    let to_b = counted_below numbers ts are b (omega (arith, at.within)) in
    let to_next = counted_below numbers ts are (b + 1) (omega (arith, at.within)) in
    let below = at.before pos in (
      ⊎_elim (λ (less : x < begin b). absurd (omega (arith, to_b, below, of.reached, sum_by-le-sum_by (λ (t : ℕ). one (nat_le t x)) (λ t. one (nat_lt t (begin b))) ts (λ t. one_within x (begin b) t less)))) (λ (from : begin b ≤ x). from) (cases_lt x (begin b)),
      ⊎_elim (λ (to : x < begin (b + 1)). to) (λ (more : begin (b + 1) ≤ x). absurd (omega (arith, to_next, at.reached, of.under, sum_by-le-sum_by (λ (t : ℕ). cond (nat_lt t (begin (b + 1))) 1 0) (λ t. one (nat_lt t x)) ts (λ t. one_under (begin (b + 1)) x t more)))) (cases_lt x (begin (b + 1))),
    )

not_within : (t x : ℕ) → x < t → one (nat_le t x) ≡ 0
not_within t x lt = grind arith

is_under : (t x : ℕ) → t < x → one (nat_lt t x) ≡ 1
is_under t x lt = grind arith

none_within : (ts : List ℕ) (x : ℕ) → x < least_of ts → count_by (λ t. nat_le t x) ts ≡ 0
none_within [] x lt = refl
none_within (t ∷ ts) x lt =
    omega (arith, none_within ts x (omega (arith, lt)), not_within t x (omega (arith, lt)), sum_by-cons (λ (u : ℕ). one (nat_le u x)) t ts)

all_under : (ts : List ℕ) (x : ℕ) → most_of ts < x → count_by (λ t. nat_lt t x) ts ≡ length ts
all_under [] x lt = refl
all_under (t ∷ ts) x lt =
    omega (arith, all_under ts x (omega (arith, lt)), is_under t x (omega (arith, lt)), sum_by-cons (λ (u : ℕ). one (nat_lt u x)) t ts)

-- a time of a rank lies between the least and the greatest
pub between : (ts : List ℕ) (rank x : ℕ) → 0 < rank → rank ≤ length ts → IsOfRank rank ts x → (least_of ts ≤ x) × (x ≤ most_of ts)
between ts rank x pos le of = (
  ⊎_elim (λ (less : x < least_of ts). absurd (omega (arith, pos, of.reached, none_within ts x less))) (λ (from : least_of ts ≤ x). from) (cases_lt x (least_of ts)),
  ⊎_elim (λ (more : most_of ts < x). absurd (omega (arith, le, of.under, all_under ts x more))) (λ (to : x ≤ most_of ts). to) (cases_lt (most_of ts) x),
)

-- what is near stays so within bounds
pub near_within : (t x least most : ℕ) → IsNear t x → least ≤ x → x ≤ most → IsNear (min (max t least) most) x
near_within t x least most near from to = record { above = omega (arith, near.above, from, to); below = omega (arith, near.below, from, to) }

pub padded_more : (old new : List ℕ) → IsPadded old new → IsPadded old (new ++ 0 ∷ [])
padded_more old new padded = record {
  long = omega (arith, padded.long, length-append new (0 ∷ []));
  same = λ k. zero_behind new k ∙ padded.same k;
}

-- the number that is written, where the sum fits
pub written : (xs : List ℕ) (n was with sum : ℕ) → n < length xs → get_or xs n 0 ≡ was → sum ≡ min (was + with) 18_446_744_073_709_551_615 → was + with < 18_446_744_073_709_551_616 → get_or (set xs n sum) n 0 ≡ was + with
written xs n was with sum within is sum_is fits = get_or-set_same xs n sum 0 within ∙ omega (arith, sum_is, fits)
