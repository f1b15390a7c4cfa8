-- What a later table counts: what the table before it counted then, and the new events.
use Rattle.std.proofs.Common.{◌≡◌, ℕ, ◌+◌, ◌-◌, ◌<◌, ◌≤◌, Bool, true, false, List, [], ◌∷◌, map, take, take-take, get_or, refl, ◌∙◌, sym, ap, subst, arith, add-one, zero, suc}
use Rattle.std.proofs.Math.Seq.{take-nil}
use Rattle.std.specs.Prelude.{◌==◌, nat_lt, count_by, sum_by, if◌then◌else◌}
use Rattle.std.specs.List.{range_with_len}
use Rattle.std.proofs.lemmas.Bool.Decides.{nat_tests}
use Rattle.std.proofs.lemmas.List.FromFn.{sum_by-map-range_with_len_more, take-map-range_with_len, get_or-map-range_with_len}
use Rattle.std.proofs.lemmas.List.Sums.{sum_by-cons, sum_by-take-le}
use Rattle.bh_base.specs.declared.event.EventKind.{EventKind}
use Rattle.bh_base.specs.declared.event.Counts.{Counts}
use Rattle.bh_base.specs.declared.event.Window.{Window}
use Rattle.bh_base.specs.History.{is_kind, count_in, counts_by, bucket_of}
use Rattle.bh_base.specs.Tables.{no_counts, no_rows, sum_in, row_at, new_at, later_table}
use Rattle.bh_base.proofs.Windows.{count_in-counts_by, div_mono}
use Rattle.bh_base.proofs.Tables.{counts_by_same, map_same, new_at-none}

-- one element more, or none where the list ends
sum_by-take_more : {X : Type 0} (f : X → ℕ) (d : X) → f d ≡ 0 → (xs : List X) (i : ℕ) → sum_by f (take (i + 1) xs) ≡ sum_by f (take i xs) + f (get_or xs i d)
sum_by-take_more f d none [] i =
    let last : sum_by f (take (i + 1) []) ≡ 0 = ap (sum_by f) (take-nil (i + 1)) in
    let before : sum_by f (take i []) ≡ 0 = ap (sum_by f) (take-nil i) in
    omega (arith, none, last, before)
sum_by-take_more f d none (x ∷ xs) zero = omega (arith, sum_by-cons f x [])
sum_by-take_more f d none (x ∷ xs) (suc i) =
    let before = rw add-one at (sum_by-take_more f d none xs i) in
    let grown : sum_by f (x ∷ take (suc i) xs) ≡ sum_by f (x ∷ take i xs) + f (get_or xs i d) =
    omega (arith, before, sum_by-cons f x (take (suc i) xs), sum_by-cons f x (take i xs)) in
    rw add-one grown

-- the number that the new events of a kind are, in the first n buckets
abbrev new_in : List EventKind → EventKind → ℕ → ℕ
new_in kinds k n = if n == 0 then 0 else count_by (λ l. is_kind l k) kinds

-- the older events in the first n buckets
rows_older : (rows : List Counts) (k : EventKind) (shift n : ℕ) → sum_by (λ c. count_in c k) (take (n - shift) rows) + row_at rows shift n k ≡ sum_by (λ c. count_in c k) (take (n + 1 - shift) rows)
rows_older rows k shift n = at (nat_lt n shift) refl
  where
    at : (young : Bool) → nat_lt n shift ≡ young → sum_by (λ c. count_in c k) (take (n - shift) rows) + (if young then 0 else count_in (get_or rows (n - shift) no_counts) k) ≡ sum_by (λ c. count_in c k) (take (n + 1 - shift) rows)
    at true is =
        let before : n - shift ≡ 0 = grind (arith, nat_tests) in
        let after : n + 1 - shift ≡ 0 = grind (arith, nat_tests) in
        rw (before, after) (omega arith)
    at false is =
        let more : n + 1 - shift ≡ n - shift + 1 = grind (arith, nat_tests) in
        rw more (sym (sum_by-take_more (λ c. count_in c k) no_counts (count_in-counts_by (λ l. 0) k) rows (n - shift)))

-- the first n buckets of a later table
abbrev FirstRows : List Counts → ℕ → List EventKind → EventKind → ℕ → Type 0
FirstRows rows shift kinds k n =
    sum_by (λ c. count_in c k) (map (λ age. counts_by (λ l. row_at rows shift age l + new_at kinds age l)) (range_with_len 0 n)) ≡ sum_by (λ c. count_in c k) (take (n - shift) rows) + new_in kinds k n

first_rows : (rows : List Counts) (shift : ℕ) (kinds : List EventKind) (k : EventKind) (n : ℕ) → FirstRows rows shift kinds k n
first_rows rows shift kinds k zero =
    let none : 0 - shift ≡ 0 = omega arith in
    rw none refl
first_rows rows shift kinds k (suc n) = subst (FirstRows rows shift kinds k) (add-one n) (
    sum_by-map-range_with_len_more (λ c. count_in c k) row 0 n n (omega arith)
    ∙ joined _ _ _ _ _ _ _ (first_rows rows shift kinds k n) (count_in-counts_by (λ l. row_at rows shift n l + new_at kinds n l) k) (rows_older rows k shift n) (new_more (n == 0) (n + 1 == 0) refl))
  where
    row : ℕ → Counts
    row = λ age. counts_by (λ l. row_at rows shift age l + new_at kinds age l)

    new_more : (z next : Bool) → (n + 1 == 0) ≡ next → (if z then 0 else count_by (λ l. is_kind l k) kinds) + (if z then count_by (λ l. is_kind l k) kinds else 0) ≡ (if next then 0 else count_by (λ l. is_kind l k) kinds)
    new_more z true is = absurd (grind (arith, nat_tests))
    new_more true false is = omega arith
    new_more false false is = omega arith

    joined : (sum here old older more new newer : ℕ) → sum ≡ old + new → here ≡ older + more → old + older ≡ newer → {all : ℕ} → new + more ≡ all → sum + here ≡ newer + all
    joined sum here old older more new newer p q r s = omega arith

-- the count of a window that ends with the newest bucket of a later table
pub sum_in-later : (w : Window) (latest moment : ℕ) (rows : List Counts) (kinds : List EventKind) (k : EventKind) → 0 < w.buckets → sum_in w moment (later_table w latest rows moment kinds) moment k ≡ sum_in w latest rows moment k + count_by (λ l. is_kind l k) kinds
sum_in-later w latest moment rows kinds k some =
    let shift = bucket_of w moment - bucket_of w latest in
    let all : w.buckets - (bucket_of w moment - bucket_of w moment) ≤ w.buckets = omega arith in
    let whole : w.buckets - (bucket_of w moment - bucket_of w moment) ≡ w.buckets = omega arith in
    let row : ℕ → Counts = λ age. counts_by (λ l. row_at rows shift age l + new_at kinds age l) in
    ap (λ xs. sum_by (λ c. count_in c k) xs) (take-map-range_with_len row 0 w.buckets _ all)
    ∙ ap (λ n. sum_by (λ c. count_in c k) (map row (range_with_len 0 n))) whole
    ∙ first_rows rows shift kinds k w.buckets
    ∙ ap (λ n. sum_by (λ c. count_in c k) (take (w.buckets - shift) rows) + n) (new_all (w.buckets == 0) refl)
  where
    new_all : (z : Bool) → (w.buckets == 0) ≡ z → (if z then 0 else count_by (λ l. is_kind l k) kinds) ≡ count_by (λ l. is_kind l k) kinds
    new_all true is = absurd (let none : w.buckets ≡ 0 = grind (arith, nat_tests) in omega arith)
    new_all false is = refl

-- a table that is older yet
row_at-twice : (rows : List Counts) (first second age : ℕ) (k : EventKind) → (if nat_lt age second then 0 else row_at rows first (age - second) k) ≡ row_at rows (first + second) age k
row_at-twice rows first second age k = at (nat_lt age second) (nat_lt (age - second) first) (nat_lt age (first + second)) refl refl refl
  where
    at : (a b c : Bool) → nat_lt age second ≡ a → nat_lt (age - second) first ≡ b → nat_lt age (first + second) ≡ c → (if a then 0 else (if b then 0 else count_in (get_or rows (age - second - first) no_counts) k)) ≡ (if c then 0 else count_in (get_or rows (age - (first + second)) no_counts) k)
    at true b true p q r = refl
    at true b false p q r = absurd (let low : age < second = grind (arith, nat_tests) in let high : first + second ≤ age = grind (arith, nat_tests) in omega arith)
    at false true true p q r = refl
    at false true false p q r = absurd (let low : age - second < first = grind (arith, nat_tests) in let high : first + second ≤ age = grind (arith, nat_tests) in omega arith)
    at false false true p q r = absurd (let more : second ≤ age = grind (arith, nat_tests) in let low : first ≤ age - second = grind (arith, nat_tests) in let high : age < first + second = grind (arith, nat_tests) in omega arith)
    at false false false p q r = let same : age - second - first ≡ age - (first + second) = omega arith in ap (λ i. count_in (get_or rows i no_counts) k) same

-- a table that is moved on twice is moved on once
pub later_table-later : (w : Window) (latest between moment : ℕ) (rows : List Counts) (kinds : List EventKind) → latest ≤ between → between ≤ moment → later_table w between (later_table w latest rows between []) moment kinds ≡ later_table w latest rows moment kinds
later_table-later w latest between moment rows kinds early late =
    map_same _ _ w.buckets no_counts (λ age inside. counts_by_same _ _ (λ k. ap (λ n. n + new_at kinds age k) (older age k inside)))
  where
    first : ℕ
    first = bucket_of w between - bucket_of w latest

    second : ℕ
    second = bucket_of w moment - bucket_of w between

    whole : first + second ≡ bucket_of w moment - bucket_of w latest
    whole = omega (arith, div_mono latest between w.width early, div_mono between moment w.width late)

    row : ℕ → Counts
    row = λ age. counts_by (λ l. row_at rows first age l + new_at [] age l)

    none_more : (a b : ℕ) → b ≡ 0 → a + b ≡ a
    none_more a b none = omega arith

    older : (age : ℕ) (k : EventKind) → age < w.buckets → row_at (map row (range_with_len 0 w.buckets)) second age k ≡ row_at rows (bucket_of w moment - bucket_of w latest) age k
    older age k inside =
        at (nat_lt age second) refl
        ∙ row_at-twice rows first second age k
        ∙ ap (λ n. row_at rows n age k) whole
      where
        at : (young : Bool) → nat_lt age second ≡ young → (if young then 0 else count_in (get_or (map row (range_with_len 0 w.buckets)) (age - second) no_counts) k) ≡ (if young then 0 else row_at rows first (age - second) k)
        at true is = refl
        at false is =
            ap (λ c. count_in c k) (get_or-map-range_with_len row 0 w.buckets (age - second) (age - second) no_counts (omega arith) (omega arith))
            ∙ count_in-counts_by (λ l. row_at rows first (age - second) l + new_at [] (age - second) l) k
            ∙ none_more (row_at rows first (age - second) k) (new_at [] (age - second) k) (new_at-none (age - second) k)

-- a later window has no more of the events that are there
pub sum_in-le : (w : Window) (latest moment : ℕ) (rows : List Counts) (k : EventKind) → sum_in w latest rows moment k ≤ sum_in w latest rows latest k
sum_in-le w latest moment rows k =
    let less : w.buckets - (bucket_of w moment - bucket_of w latest) ≤ w.buckets - (bucket_of w latest - bucket_of w latest) = omega arith in
    let front = take-take (w.buckets - (bucket_of w moment - bucket_of w latest)) (w.buckets - (bucket_of w latest - bucket_of w latest)) rows less in
    omega (arith, sum_by-take-le (λ c. count_in c k) (take (w.buckets - (bucket_of w latest - bucket_of w latest)) rows) (w.buckets - (bucket_of w moment - bucket_of w latest)), ap (λ cs. sum_by (λ c. count_in c k) cs) front)

-- without events nothing is counted later
pub later_table-none : (w : Window) (latest moment : ℕ) → later_table w latest (no_rows w) moment [] ≡ no_rows w
later_table-none w latest moment =
    map_same _ _ w.buckets no_counts (λ age inside. counts_by_same _ _ (λ k. ap (λ n. n + new_at [] age k) (none age k inside) ∙ ap (λ n. 0 + n) (new_at-none age k)))
  where
    none : (age : ℕ) (k : EventKind) → age < w.buckets → row_at (no_rows w) (bucket_of w moment - bucket_of w latest) age k ≡ 0
    none age k inside = at (nat_lt age (bucket_of w moment - bucket_of w latest)) refl
      where
        at : (young : Bool) → nat_lt age (bucket_of w moment - bucket_of w latest) ≡ young → (if young then 0 else count_in (get_or (no_rows w) (age - (bucket_of w moment - bucket_of w latest)) no_counts) k) ≡ 0
        at true is = refl
        at false is =
            ap (λ c. count_in c k) (get_or-map-range_with_len (λ a. no_counts) 0 w.buckets (age - (bucket_of w moment - bucket_of w latest)) (age - (bucket_of w moment - bucket_of w latest)) no_counts (omega arith) (omega arith))
            ∙ count_in-counts_by (λ l. 0) k
