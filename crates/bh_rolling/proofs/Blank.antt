-- A ring whose buckets have no event.
use Rattle.std.proofs.Common.{◌≡◌, ℕ, ◌+◌, ◌%◌, ◌<◌, Bool, true, false, List, [], ◌∷◌, map, get_or, length, refl, ◌∙◌, sym, ap, subst, arith, zero, suc, mod-eq_of_lt}
use Rattle.std.specs.Prelude.{◌==◌, if◌then◌else◌}
use Rattle.std.specs.List.{range_with_len, AllByRecursion}
use Rattle.std.proofs.lemmas.List.{length-map}
use Rattle.std.proofs.lemmas.List.FromFn.{length-map-range_with_len, get_or-map-range_with_len}
use Rattle.bh_base.specs.declared.event.EventKind.{EventKind}
use Rattle.bh_base.specs.declared.event.Window.{Window}
use Rattle.bh_base.specs.History.{count_in, bucket_of}
use Rattle.bh_base.specs.Tables.{no_counts, no_rows}
use Rattle.bh_base.proofs.Tables.{counts_by_same, map_same}
use Rattle.bh_base.proofs.Windows.{sum_by-same, sum_by-none, count_in-counts_by}
use Rattle.bh_rolling.specs.declared.ring.Bucket.{Bucket}
use Rattle.bh_rolling.specs.declared.ring.Ring.TheInside.{Inside}
use Rattle.bh_rolling.specs.Buckets.{cleared, fresh, is_within, count_by_age, table_by_age, within_count, IsEmptyAfter}
use Rattle.bh_rolling.specs.Inside.{ring_view, IsRing}
use Rattle.bh_rolling.specs.RingView.{empty_ring, IsTableOf}
use Rattle.bh_rolling.specs.Stretches.{stretch_at}

-- the bucket has no event
abbrev pub IsBlank : Bucket → Type 0
IsBlank b = b.counts ≡ no_counts

blank_map : {X : Type 0} (f : X → Bucket) → ((x : X) → IsBlank (f x)) → (xs : List X) → AllByRecursion IsBlank (map f xs)
blank_map f blank [] = tt
blank_map f blank (x ∷ xs) = (blank x, blank_map f blank xs)

blank_empty : (newest : ℕ) (bs : List Bucket) → AllByRecursion IsBlank bs → AllByRecursion (IsEmptyAfter newest) bs
blank_empty newest [] all = tt
blank_empty newest (b ∷ bs) all = (λ after k. ap (λ c. count_in c k) all.0 ∙ count_in-counts_by (λ l. 0) k, blank_empty newest bs all.1)

none_of : (b : Bucket) (k : EventKind) (test : Bool) → IsBlank b → (if test then count_in b.counts k else 0) ≡ 0
none_of b k true blank = ap (λ c. count_in c k) blank ∙ count_in-counts_by (λ l. 0) k
none_of b k false blank = refl

none_kept : (bs : List Bucket) (last age : ℕ) (k : EventKind) → AllByRecursion IsBlank bs → count_by_age bs last age k ≡ 0
unfolding count_by_age
none_kept bs last age k all =
    sum_by-same IsBlank _ (λ b. 0) (λ b blank. none_of b k (b.number + age == last) blank) bs all ∙ sum_by-none (λ b. 0) (λ b. refl) bs

none_within : (n last : ℕ) (k : EventKind) (bs : List Bucket) → AllByRecursion IsBlank bs → within_count n last k bs ≡ 0
none_within n last k bs all =
    sum_by-same IsBlank _ (λ b. 0) (λ b blank. none_of b k (is_within n last b) blank) bs all ∙ sum_by-none (λ b. 0) (λ b. refl) bs

module _ (i : Inside) (start : i.latest ≡ 0) (all : AllByRecursion IsBlank i.buckets.items) where
  -- a ring of blank buckets is seen as the empty ring
  pub blank_view : ring_view i ≡ empty_ring i.window
  blank_view = λ j. record { window = i.window; latest = start j; table = rows j }
    where
      rows : table_by_age i.window.buckets i.buckets.items (bucket_of i.window i.latest) ≡ no_rows i.window
      rows = map_same _ _ i.window.buckets no_counts (λ age inside. counts_by_same _ _ (λ k. none_kept i.buckets.items (bucket_of i.window i.latest) age k all))

  -- and is one
  pub blank_ring : 0 < i.window.buckets → 0 < i.window.width → length i.buckets.items ≡ i.window.buckets → i.newest ≡ stretch_at i.window i.latest → ((q : ℕ) (d : Bucket) → q < i.window.buckets → (get_or i.buckets.items q d).number % i.window.buckets ≡ q) → IsRing i
  blank_ring some width len newest placed = record {
    some = some;
    width = width;
    buckets = len;
    newest = newest;
    placed = placed;
    empty = blank_empty (bucket_of i.window i.latest) i.buckets.items all;
    bounded = λ k. omega (arith, none_within i.window.buckets (bucket_of i.window i.latest) k i.buckets.items all);
  }

-- the empty ring has the table of no events
pub empty_tells : (w : Window) → IsTableOf (empty_ring w) []
empty_tells w = record { past = tt; table = refl }

-- new buckets
module _ (n : ℕ) (bs : List Bucket) (are : bs ≡ map fresh (range_with_len 0 n)) where
  -- they are blank
  pub fresh_blank : AllByRecursion IsBlank bs
  fresh_blank = subst (AllByRecursion IsBlank) (sym are) (blank_map fresh (λ number. refl) (range_with_len 0 n))

  -- there are n of them
  pub fresh_length : length bs ≡ n
  fresh_length = ap length are ∙ length-map-range_with_len fresh 0 n

  -- each stands at the place of its number
  pub fresh_placed : (q : ℕ) (d : Bucket) → q < n → (get_or bs q d).number % n ≡ q
  fresh_placed q d inside =
      ap (λ xs. (get_or xs q d).number % n) are
      ∙ ap (λ (b : Bucket). b.number % n) (get_or-map-range_with_len fresh 0 n q q d inside (omega arith))
      ∙ mod-eq_of_lt inside

-- buckets that were cleared
numbers : (bs : List Bucket) (q : ℕ) (d : Bucket) → q < length bs → (get_or (map cleared bs) q d).number ≡ (get_or bs q d).number
numbers [] q d inside = absurd (omega arith)
numbers (b ∷ bs) zero d inside = refl
numbers (b ∷ bs) (suc q) d inside = numbers bs q d (omega arith)

module _ (bs cs : List Bucket) (are : cs ≡ map cleared bs) where
  -- they are blank
  pub cleared_blank : AllByRecursion IsBlank cs
  cleared_blank = subst (AllByRecursion IsBlank) (sym are) (blank_map cleared (λ b. refl) bs)

  -- there are as many as before
  pub cleared_length : length cs ≡ length bs
  cleared_length = ap length are ∙ length-map bs cleared

  -- each has the number that it had
  pub cleared_number : (q : ℕ) (d : Bucket) → q < length bs → (get_or cs q d).number ≡ (get_or bs q d).number
  cleared_number q d inside = ap (λ xs. (get_or xs q d).number) are ∙ numbers bs q d inside
