-- The buckets of a ring.
use Rattle.std.specs.Prelude.{◌≡◌, ℕ, ◌+◌, ◌<◌, ◌&&◌, ◌==◌, nat_lt, nat_le, Bool, List, map, sum_by, if◌then◌else◌}
use Rattle.std.specs.List.{range_with_len}
use Rattle.bh_base.specs.declared.event.Counts.{Counts}
use Rattle.bh_base.specs.declared.event.EventKind.{EventKind}
use Rattle.bh_base.specs.History.{count_in, counts_by, is_kind}
use Rattle.bh_base.specs.Tables.{no_counts}
use Rattle.bh_rolling.specs.declared.ring.Bucket.{Bucket}

-- what the buckets have of the kind in the window's bucket that is `age` buckets before the bucket number `last`
unfoldable pub count_by_age : List Bucket → ℕ → ℕ → EventKind → ℕ
count_by_age buckets last age k = sum_by (λ b. if b.number + age == last then count_in b.counts k else 0) buckets

-- the table of n buckets, the one of the number `last` first
abbrev pub table_by_age : ℕ → List Bucket → ℕ → List Counts
table_by_age n buckets last = map (λ age. counts_by (count_by_age buckets last age)) (range_with_len 0 n)

-- one more event of the kind
abbrev pub raised : EventKind → Counts → Counts
raised kind counts = counts_by (λ k. count_in counts k + (if is_kind kind k then 1 else 0))

-- the sum of two counts of each kind
abbrev pub summed : Counts → Counts → Counts
summed a b = counts_by (λ k. count_in a k + count_in b k)

-- the bucket, as the one of the number: without events if it was that of another number
abbrev pub renewed : ℕ → Bucket → Bucket
renewed number b = if b.number == number then b else record { number = number; counts = no_counts }

-- the bucket has one of the n numbers up to `last`
abbrev pub is_within : ℕ → ℕ → Bucket → Bool
is_within n last b = nat_le b.number last && nat_lt last (b.number + n)

-- what the bucket has of the kind, where it has one of those numbers
abbrev pub part_within : ℕ → ℕ → EventKind → Bucket → ℕ
part_within n last k b = if is_within n last b then count_in b.counts k else 0

-- what the buckets of the window have of the kind
abbrev pub within_count : ℕ → ℕ → EventKind → List Bucket → ℕ
within_count n last k buckets = sum_by (part_within n last k) buckets

-- a bucket of a number that is still to come has no event
abbrev pub IsEmptyAfter : ℕ → Bucket → Type 0
IsEmptyAfter newest b = newest < b.number → (k : EventKind) → count_in b.counts k ≡ 0

-- the bucket of the number, without events
abbrev pub fresh : ℕ → Bucket
fresh number = record { number = number; counts = no_counts }

-- the bucket without its events
abbrev pub cleared : Bucket → Bucket
cleared b = record b { counts = no_counts }
