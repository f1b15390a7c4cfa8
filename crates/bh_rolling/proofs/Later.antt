-- The buckets, read at a later moment, are the table moved on.
use Rattle.std.proofs.Common.{◌≡◌, ℕ, ◌+◌, ◌-◌, ◌<◌, ◌≤◌, Bool, true, false, List, [], get_or, refl, ◌∙◌, sym, ap, arith}
use Rattle.std.specs.Prelude.{◌==◌, nat_lt, if◌then◌else◌}
use Rattle.std.specs.List.{AllByRecursion}
use Rattle.std.proofs.lemmas.Bool.Decides.{nat_tests}
use Rattle.std.proofs.lemmas.List.FromFn.{get_or-map-range_with_len}
use Rattle.bh_base.specs.declared.event.EventKind.{EventKind}
use Rattle.bh_base.specs.declared.event.Window.{Window}
use Rattle.bh_base.specs.History.{count_in, counts_by, bucket_of}
use Rattle.bh_base.specs.Tables.{no_counts, row_at, later_table}
use Rattle.bh_base.proofs.Tables.{counts_by_same, map_same, new_at-none}
use Rattle.bh_base.proofs.Windows.{div_mono, sum_by-same, sum_by-none, count_in-counts_by}
use Rattle.bh_rolling.specs.declared.ring.Bucket.{Bucket}
use Rattle.bh_rolling.specs.Buckets.{count_by_age, table_by_age, IsEmptyAfter}

too_old : (number last end age held : ℕ) → (last < number → held ≡ 0) → last ≤ end → age < end - last → (if number + age == end then held else 0) ≡ 0
too_old number last end age held empty le young = grind (arith, nat_tests)

same_bucket : (number last end age held : ℕ) → last ≤ end → end - last ≤ age → (if number + age == end then held else 0) ≡ (if number + (age - (end - last)) == last then held else 0)
same_bucket number last end age held le old = grind (arith, nat_tests)

-- what the buckets have of an age at a later bucket, by the table of the earlier one
pub count_by_age-later : (n : ℕ) (buckets : List Bucket) (last end age : ℕ) (k : EventKind) → AllByRecursion (IsEmptyAfter last) buckets → last ≤ end → age < n → count_by_age buckets end age k ≡ row_at (table_by_age n buckets last) (end - last) age k
unfolding count_by_age
count_by_age-later n buckets last end age k empty later inside = at (nat_lt age (end - last)) refl
  where
    at : (young : Bool) → nat_lt age (end - last) ≡ young → count_by_age buckets end age k ≡ (if young then 0 else count_in (get_or (table_by_age n buckets last) (age - (end - last)) no_counts) k)
    at true is =
        let young : age < end - last = grind (arith, nat_tests) in
        sum_by-same (IsEmptyAfter last) _ (λ b. 0) (λ b none. too_old b.number last end age (count_in b.counts k) (λ after. none after k) later young) buckets empty
        ∙ sum_by-none (λ b. 0) (λ b. refl) buckets
    at false is =
        let old : end - last ≤ age = grind (arith, nat_tests) in
        sum_by-same (IsEmptyAfter last) _ _ (λ b none. same_bucket b.number last end age (count_in b.counts k) later old) buckets empty
        ∙ sym (count_in-counts_by (count_by_age buckets last (age - (end - last))) k)
        ∙ sym (ap (λ c. count_in c k) (get_or-map-range_with_len (λ a. counts_by (count_by_age buckets last a)) 0 n (age - (end - last)) (age - (end - last)) no_counts (omega arith) (omega arith)))

-- the table at a later moment is the later table, with no event added
pub table_by_age-later : (w : Window) (buckets : List Bucket) (latest moment : ℕ) → AllByRecursion (IsEmptyAfter (bucket_of w latest)) buckets → latest ≤ moment → table_by_age w.buckets buckets (bucket_of w moment) ≡ later_table w latest (table_by_age w.buckets buckets (bucket_of w latest)) moment []
table_by_age-later w buckets latest moment empty later =
    map_same _ _ w.buckets no_counts (λ age inside. counts_by_same _ _ (λ k.
    with_none (count_by_age-later w.buckets buckets (bucket_of w latest) (bucket_of w moment) age k empty (div_mono latest moment w.width later) inside) (new_at-none age k)))
  where
    with_none : {a b c : ℕ} → a ≡ b → c ≡ 0 → a ≡ b + c
    with_none p q = omega (arith, p, q)
