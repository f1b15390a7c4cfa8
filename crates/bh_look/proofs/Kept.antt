-- What is kept of times as more of them come, and what it says of ranks.
use Rattle.std.proofs.Common.{◌≡◌, ℕ, ◌+◌, ◌<◌, ◌≤◌, true, false, Some, None, List, [], ◌∷◌, ◌++◌, length, get_or, set, min, max, suc, sym, ap, ◌∙◌, subst, ⊎_elim, refl, arith}
use Prim.Native.Nat.{zero}
use Rattle.std.specs.Prelude.{◌&&◌, nat_lt, nat_le, All, sum, count_by}
use Rattle.std.proofs.lemmas.Bool.{cases_lt}
use Rattle.std.proofs.lemmas.List.{get_or-set_other, length-set, length-append, take_all}
use Rattle.std.proofs.lemmas.List.Elements.{All-cons, All-head, All-tail, All-append, All-weaker}
use Rattle.std.proofs.lemmas.List.Sums.{sum_by-cons, sum_by-append, count_by-le-length}
use Rattle.bh_look.specs.Times.{AreTimes, IsNear, TellsRank, TimesView, begin, is_graded, least_of, most_of}
use Rattle.bh_look.specs.Inside.{IsPadded, IsRanked}
use Rattle.bh_look.specs.Tallies.{sum_up_to}
use Rattle.bh_look.proofs.Grades.{begin-up}
use Rattle.bh_look.proofs.Counts.{between, counted_below, near_within, of_grade, one, written}

-- the times below a later begin
below_later : (ts : List ℕ) (m n : ℕ) → m ≤ n → All (λ t. t < begin m) ts → All (λ t. t < begin n) ts
below_later ts m n le all = All-weaker (λ t. t < begin m) (λ t. t < begin n) (λ t lt. omega (arith, lt, begin-up m n le)) ts all

pub padded_kept : (ts : List ℕ) (v : TimesView) (new : List ℕ) → IsPadded v.numbers new → AreTimes ts v → AreTimes ts (record v { numbers = new })
padded_kept ts v new padded are = record {
  count = are.count;
  least = are.least;
  most = are.most;
  numbers = λ g. padded.same g ∙ are.numbers g;
  graded = below_later ts (length v.numbers) (length new) padded.long are.graded;
}

not_from : (a b t : ℕ) → b ≤ t → one (nat_le a t && nat_lt t b) ≡ 0
not_from a b t le = grind arith

not_to : (a b t : ℕ) → t < a → one (nat_le a t && nat_lt t b) ≡ 0
not_to a b t lt = grind arith

is_of : (a b t : ℕ) → a ≤ t → t < b → one (nat_le a t && nat_lt t b) ≡ 1
is_of a b t le lt = grind arith

-- the numbers with one time more
more_numbers : (numbers new ts : List ℕ) (ms b : ℕ) → ((g : ℕ) → get_or numbers g 0 ≡ count_by (is_graded g) ts) → length ts + 1 < 18_446_744_073_709_551_616 → b < length numbers → begin b ≤ ms → ms < begin (b + 1) → new ≡ set numbers b (sum_up_to (get_or numbers b 0) 1) → (g : ℕ) → get_or new g 0 ≡ count_by (is_graded g) (ms ∷ ts)
more_numbers numbers new ts ms b are few within from to is g =
    let cons = sum_by-cons (λ (u : ℕ). one (is_graded g u)) ms ts in
    let at : get_or new g 0 ≡ get_or (set numbers b (sum_up_to (get_or numbers b 0) 1)) g 0 = ap (λ l. get_or l g 0) is in
    ⊎_elim
    (λ (before : g < b).
    let other : get_or (set numbers b (sum_up_to (get_or numbers b 0) 1)) g 0 ≡ get_or numbers g 0 = get_or-set_other numbers b g _ 0 (λ same. absurd (omega (arith, before, same))) in
    omega (arith, at, other, are g, cons, not_from (begin g) (begin (g + 1)) ms (omega (arith, from, begin-up (g + 1) b (omega (arith, before))))))
    (λ (no_less : b ≤ g). ⊎_elim
    (λ (behind : b < g).
    let other : get_or (set numbers b (sum_up_to (get_or numbers b 0) 1)) g 0 ≡ get_or numbers g 0 = get_or-set_other numbers b g _ 0 (λ same. absurd (omega (arith, behind, same))) in
    omega (arith, at, other, are g, cons, not_to (begin g) (begin (g + 1)) ms (omega (arith, to, begin-up (b + 1) g (omega (arith, behind))))))
    (λ (no_more : g ≤ b).
    let same : b ≡ g = omega (arith, no_less, no_more) in
    let mine : get_or (set numbers b (sum_up_to (get_or numbers b 0) 1)) b 0 ≡ get_or numbers b 0 + 1 = written numbers b (get_or numbers b 0) 1 _ within refl refl (omega (arith, are b, few, count_by-le-length (is_graded b) ts)) in
    let there : get_or new b 0 ≡ count_by (is_graded b) (ms ∷ ts) = ap (λ l. get_or l b 0) is ∙ omega (arith, mine, are b, sum_by-cons (λ (u : ℕ). one (is_graded b u)) ms ts, is_of (begin b) (begin (b + 1)) ms from to) in
    subst (λ n. get_or new n 0 ≡ count_by (is_graded n) (ms ∷ ts)) same there)
    (cases_lt b g))
    (cases_lt g b)

pub with_one : (ts : List ℕ) (ms b : ℕ) (v w : TimesView) → AreTimes ts v → length ts + 1 < 18_446_744_073_709_551_616 → b < length v.numbers → begin b ≤ ms → ms < begin (b + 1) → w.count ≡ min (v.count + 1) 18_446_744_073_709_551_615 → w.least ≡ min v.least ms → w.most ≡ max v.most ms → w.numbers ≡ set v.numbers b (sum_up_to (get_or v.numbers b 0) 1) → AreTimes (ms ∷ ts) w
with_one ts ms b v w are few within from to count_is least_is most_is numbers_is =
    let long : length w.numbers ≡ length v.numbers = ap length numbers_is ∙ length-set v.numbers b _ in
    record {
      count = omega (arith, count_is, are.count, few);
      least = omega (arith, least_is, are.least);
      most = omega (arith, most_is, are.most);
      numbers = more_numbers v.numbers w.numbers ts ms b are.numbers few within from to numbers_is;
      graded = All-cons (λ t. t < begin (length w.numbers)) ms ts (omega (arith, to, begin-up (b + 1) (length w.numbers) (omega (arith, long, within)))) (below_later ts (length v.numbers) (length w.numbers) (omega (arith, long)) are.graded);
    }

least_most : (ts : List ℕ) → least_of ts ≤ 18_446_744_073_709_551_615
least_most [] = omega arith
least_most (t ∷ ts) = omega (arith, least_most ts)

least_both : (us ts : List ℕ) → least_of (us ++ ts) ≡ min (least_of us) (least_of ts)
least_both [] ts = omega (arith, least_most ts)
least_both (u ∷ us) ts = omega (arith, least_both us ts)

most_both : (us ts : List ℕ) → most_of (us ++ ts) ≡ max (most_of us) (most_of ts)
most_both [] ts = omega arith
most_both (u ∷ us) ts = omega (arith, most_both us ts)

pub with_all : (ts us : List ℕ) (v u w : TimesView) → AreTimes ts v → AreTimes us u → length us + length ts < 18_446_744_073_709_551_616 → length u.numbers ≤ length v.numbers → w.count ≡ min (v.count + u.count) 18_446_744_073_709_551_615 → w.least ≡ min v.least u.least → w.most ≡ max v.most u.most → length w.numbers ≡ length v.numbers → ((k : ℕ) → get_or v.numbers k 0 + get_or u.numbers k 0 < 18_446_744_073_709_551_616 → get_or w.numbers k 0 ≡ get_or v.numbers k 0 + get_or u.numbers k 0) → AreTimes (us ++ ts) w
with_all ts us v u w are ares few within count_is least_is most_is long each = record {
  count = omega (arith, count_is, are.count, ares.count, few, length-append us ts);
  least = omega (arith, least_is, are.least, ares.least, least_both us ts);
  most = omega (arith, most_is, are.most, ares.most, most_both us ts);
  numbers = λ g.
      let mine = are.numbers g in
      let others = ares.numbers g in
      omega (arith, mine, others, sum_by-append (λ (t : ℕ). one (is_graded g t)) us ts, each g (omega (arith, mine, others, few, count_by-le-length (is_graded g) ts, count_by-le-length (is_graded g) us)));
  graded = All-append (λ t. t < begin (length w.numbers)) us ts (below_later us (length u.numbers) (length w.numbers) (omega (arith, long, within)) ares.graded) (below_later ts (length v.numbers) (length w.numbers) (omega (arith, long)) are.graded);
}

under : (t m : ℕ) → t < m → one (nat_lt t m) ≡ 1
under t m lt = grind arith

counted : (ts : List ℕ) (m : ℕ) → All (λ t. t < m) ts → count_by (λ t. nat_lt t m) ts ≡ length ts
counted [] m all = refl
counted (t ∷ ts) m all =
    omega (arith, counted ts m (All-tail (λ u. u < m) t ts all), under t m (All-head (λ u. u < m) t ts all), sum_by-cons (λ (u : ℕ). one (nat_lt u m)) t ts)

-- the numbers come to all times
pub all_counted : (ts : List ℕ) (v : TimesView) → AreTimes ts v → sum v.numbers ≡ length ts
all_counted ts v are =
    ap sum (sym (take_all (length v.numbers) v.numbers (omega arith))) ∙ counted_below v.numbers ts are.numbers (length v.numbers) (omega arith) ∙ counted ts (begin (length v.numbers)) are.graded

none_left : (n : ℕ) → (0 < n → ⊥) → false ≡ nat_lt 0 n
none_left zero empty = refl
none_left (suc n) empty = absurd (empty (omega arith))

some_left : (n : ℕ) → 0 < n → true ≡ nat_lt 0 n
some_left n some = grind arith

-- nothing is told where there is no time
pub none_told : (ts : List ℕ) (rank : ℕ) → (0 < length ts → ⊥) → TellsRank rank ts None
none_told ts rank empty = record { some = none_left (length ts) empty; near = tt }

-- a time in the grade that the rank is of is told, within the least and the greatest
pub some_told : (ts : List ℕ) (v : TimesView) (rank b t : ℕ) → AreTimes ts v → rank ≤ length ts → IsRanked rank b v.numbers → ((x : ℕ) → begin b ≤ x → x < begin (b + 1) → IsNear t x) → TellsRank rank ts (Some (min (max t (least_of ts)) (most_of ts)))
some_told ts v rank b t are le at near = record {
  some = some_left (length ts) (omega (arith, at.some, are.numbers b, count_by-le-length (is_graded b) ts));
  near = λ x of.
      let pos : 0 < rank = omega (arith, of.under) in
      let graded = of_grade v.numbers ts rank b x are.numbers pos at of in
      let inside = between ts rank x pos le of in
      near_within t x (least_of ts) (most_of ts) (near x graded.0 graded.1) inside.0 inside.1;
}
