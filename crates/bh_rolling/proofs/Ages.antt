-- The buckets of a window, added up by their ages, are those that have one of its numbers.
use Rattle.std.proofs.Common.{◌≡◌, ℕ, ◌+◌, ◌-◌, ◌≤◌, ◌&&◌, List, ◌∙◌, sym, ap, subst, arith, add-one, zero, suc}
use Rattle.std.specs.Prelude.{◌==◌, nat_lt, nat_le, sum_by, if◌then◌else◌}
use Rattle.std.proofs.lemmas.Bool.Decides.{nat_tests}
use Rattle.std.proofs.lemmas.List.FromFn.{sum_by-map-range_with_len_more, take-map-range_with_len}
use Rattle.bh_base.specs.declared.event.EventKind.{EventKind}
use Rattle.bh_base.specs.declared.event.Window.{Window}
use Rattle.bh_base.specs.History.{count_in, counts_by, bucket_of}
use Rattle.bh_base.specs.Tables.{sum_in}
use Rattle.bh_base.proofs.Windows.{sum_by-both, sum_by-none, count_in-counts_by}
use Rattle.bh_rolling.specs.declared.ring.Bucket.{Bucket}
use Rattle.bh_rolling.specs.Buckets.{count_by_age, table_by_age, within_count}

one_more : (number last n held : ℕ) → (if nat_le number last && nat_lt last (number + n) then held else 0) + (if number + n == last then held else 0) ≡ (if nat_le number last && nat_lt last (number + (n + 1)) then held else 0)
one_more number last n held = grind (arith, nat_tests)

none_yet : (number last held : ℕ) → (if nat_le number last && nat_lt last (number + 0) then held else 0) ≡ 0
none_yet number last held = grind (arith, nat_tests)

-- the first n ages
abbrev FirstAges : List Bucket → ℕ → EventKind → ℕ → Type 0
FirstAges buckets last k n = sum_by (λ c. count_in c k) (table_by_age n buckets last) ≡ within_count n last k buckets

ages_more : (buckets : List Bucket) (last : ℕ) (k : EventKind) (n : ℕ) → FirstAges buckets last k n → FirstAges buckets last k (n + 1)
unfolding count_by_age
ages_more buckets last k n before =
    sum_by-map-range_with_len_more (λ c. count_in c k) (λ age. counts_by (count_by_age buckets last age)) 0 n n (omega arith)
    ∙ ap (λ x. sum_by (λ c. count_in c k) (table_by_age n buckets last) + x) (count_in-counts_by (count_by_age buckets last n) k)
    ∙ ap (λ x. x + count_by_age buckets last n k) before
    ∙ sum_by-both _ _ _ (λ b. one_more b.number last n (count_in b.counts k)) buckets

-- the first n buckets of the table have together what the buckets of the last n numbers have
pub ages : (buckets : List Bucket) (last : ℕ) (k : EventKind) (n : ℕ) → FirstAges buckets last k n
ages buckets last k zero = sym (sum_by-none _ (λ b. none_yet b.number last (count_in b.counts k)) buckets)
ages buckets last k (suc n) = subst (FirstAges buckets last k) (add-one n) (ages_more buckets last k n (ages buckets last k n))

-- what a table counts at its own moment
pub within_count-is : (w : Window) (buckets : List Bucket) (moment : ℕ) (k : EventKind) → within_count w.buckets (bucket_of w moment) k buckets ≡ sum_in w moment (table_by_age w.buckets buckets (bucket_of w moment)) moment k
within_count-is w buckets moment k =
    let all : w.buckets - (bucket_of w moment - bucket_of w moment) ≤ w.buckets = omega arith in
    let whole : w.buckets - (bucket_of w moment - bucket_of w moment) ≡ w.buckets = omega arith in
    sym (
    ap (λ xs. sum_by (λ c. count_in c k) xs) (take-map-range_with_len (λ age. counts_by (count_by_age buckets (bucket_of w moment) age)) 0 w.buckets _ all)
    ∙ ap (λ n. sum_by (λ c. count_in c k) (table_by_age n buckets (bucket_of w moment))) whole
    ∙ ages buckets (bucket_of w moment) k w.buckets)
