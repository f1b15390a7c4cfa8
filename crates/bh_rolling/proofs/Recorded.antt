-- A ring after an event was recorded, by its fields.
use Rattle.std.proofs.Common.{◌≡◌, ℕ, ◌+◌, ◌%◌, ◌<◌, ◌≤◌, ◌^◌, Bool, true, false, inl, inr, List, [], ◌∷◌, get_or, set, length, length-set, get_or-set_same, get_or-set_other, refl, ◌∙◌, sym, ap, subst, arith, zero, suc}
use Rattle.std.specs.Prelude.{◌==◌, count_by, nat_lt, nat_le, ◌&&◌, if◌then◌else◌}
use Rattle.std.specs.List.{AllByRecursion}
use Rattle.std.specs.Vec.{with_item}
use Rattle.std.proofs.lemmas.Bool.{cases_eq}
use Rattle.std.proofs.lemmas.Bool.Decides.{nat_tests}
use Rattle.std.proofs.lemmas.List.Sums.{get_or-le-sum_by}
use Rattle.bh_base.specs.declared.event.EventKind.{EventKind}
use Rattle.bh_base.specs.declared.event.EventKind.TheVariants as kind
use Rattle.bh_base.specs.History.{place_of_kind, is_kind, count_in, bucket_of}
use Rattle.bh_base.specs.Tables.{sum_in, later_table}
use Rattle.bh_base.proofs.LaterTables.{sum_in-later, sum_in-le}
use Rattle.bh_base.proofs.Windows.{div_mono}
use Rattle.bh_rolling.specs.declared.ring.Bucket.{Bucket}
use Rattle.bh_rolling.specs.declared.ring.Ring.TheInside.{Inside}
use Rattle.bh_rolling.specs.Buckets.{table_by_age, renewed, part_within, within_count, IsEmptyAfter}
use Rattle.bh_rolling.specs.Inside.{ring_view, IsRing}
use Rattle.bh_rolling.specs.RingView.{ring_count, ring_recorded}
use Rattle.bh_rolling.specs.Stretches.{stretch_at}
use Rattle.bh_rolling.proofs.Ages.{within_count-is}
use Rattle.bh_rolling.proofs.Written.{written, written-number, renewed_is, table_by_age-set}

-- the kinds by their places
kinds : List EventKind
kinds = kind.BadRequest ∷ kind.ExceptionThrown ∷ kind.Failure ∷ kind.FallbackFailure ∷ kind.FallbackMissing ∷ kind.FallbackRejection ∷ kind.FallbackSuccess ∷ kind.ResponseFromCache ∷ kind.SemaphoreRejected ∷ kind.ShortCircuited ∷ kind.Success ∷ kind.ThreadPoolRejected ∷ kind.Timeout ∷ []

at_place : (k : EventKind) → get_or kinds (place_of_kind k) kind.Timeout ≡ k
unfolding kinds
at_place kind.BadRequest = refl
at_place kind.ExceptionThrown = refl
at_place kind.Failure = refl
at_place kind.FallbackFailure = refl
at_place kind.FallbackMissing = refl
at_place kind.FallbackRejection = refl
at_place kind.FallbackSuccess = refl
at_place kind.ResponseFromCache = refl
at_place kind.SemaphoreRejected = refl
at_place kind.ShortCircuited = refl
at_place kind.Success = refl
at_place kind.ThreadPoolRejected = refl
at_place kind.Timeout = refl

same_kind : (k l : EventKind) → is_kind k l ≡ true → k ≡ l
same_kind k l same =
    let places : place_of_kind k ≡ place_of_kind l = grind (arith, nat_tests) in
    sym (at_place k) ∙ ap (λ p. get_or kinds p kind.Timeout) places ∙ at_place l

all_set : {X : Type 0} (P : X → Type 0) (xs : List X) (i : ℕ) (x : X) → AllByRecursion P xs → P x → AllByRecursion P (set xs i x)
all_set P [] i x all here = all
all_set P (y ∷ ys) zero x all here = (here, all.1)
all_set P (y ∷ ys) (suc i) x all here = (all.0, all_set P ys i x all.1 here)

still_empty : (newest later : ℕ) (bs : List Bucket) → newest ≤ later → AllByRecursion (IsEmptyAfter newest) bs → AllByRecursion (IsEmptyAfter later) bs
still_empty newest later [] le all = all
still_empty newest later (b ∷ bs) le all = (λ after. all.0 (omega arith), still_empty newest later bs le all.1)

-- the counter that is raised is one of the window's
pub renewed-le : (n number most : ℕ) (k : EventKind) (buckets : List Bucket) (place : ℕ) (d : Bucket) → 0 < n → place < length buckets → within_count n number k buckets ≤ most → count_in (renewed number (get_or buckets place d)).counts k ≤ most
renewed-le n number most k buckets place d some inside few =
    let old : Bucket = get_or buckets place d in
    here old.number (count_in old.counts k) _ _ some few (get_or-le-sum_by (part_within n number k) buckets place d inside) (renewed_is number old k).1
  where
    here : (q x sum r : ℕ) → 0 < n → sum ≤ most → (if nat_le q number && nat_lt number (q + n) then x else 0) ≤ sum → r ≡ (if q == number then x else 0) → r ≤ most
    here q x sum r some few le is = grind (arith, nat_tests)

module _ (i : Inside) (now : ℕ) (kind : EventKind) (d y : Bucket) (ring : IsRing i) (later : i.latest ≤ now) (few : ring_count (ring_view i) now kind < 2 ^ 60)
    (is : y ≡ written (bucket_of i.window now) kind (get_or i.buckets.items (bucket_of i.window now % i.window.buckets) d)) where
  -- the ring with the event in its bucket
  abbrev pub after : Inside
  after = record { window = i.window; latest = now; newest = stretch_at i.window now; buckets = with_item i.buckets (bucket_of i.window now % i.window.buckets) y }

  some : 0 < i.window.buckets
  some = ring.some

  place : ℕ
  place = bucket_of i.window now % i.window.buckets

  rows : table_by_age i.window.buckets after.buckets.items (bucket_of i.window now) ≡ later_table i.window i.latest (table_by_age i.window.buckets i.buckets.items (bucket_of i.window i.latest)) now (kind ∷ [])
  rows =
      ap (λ b. table_by_age i.window.buckets (set i.buckets.items (bucket_of i.window now % i.window.buckets) b) (bucket_of i.window now)) is
      ∙ table_by_age-set i.window i.buckets.items d i.latest now kind ring.buckets ring.some ring.placed ring.empty later

  -- it is seen as the ring before it with the event recorded
  pub recorded_view : ring_view after ≡ ring_recorded now kind (ring_view i)
  recorded_view = λ j. record { window = i.window; latest = now; table = rows j }

  numbered : y.number ≡ bucket_of i.window now
  numbered = ap (λ (b : Bucket). b.number) is ∙ written-number (bucket_of i.window now) kind _

  bounded : (k : EventKind) → within_count i.window.buckets (bucket_of i.window now) k after.buckets.items ≤ 2 ^ 60
  bounded k = at (is_kind kind k) refl
    where
      grown : within_count i.window.buckets (bucket_of i.window now) k after.buckets.items ≡ ring_count (ring_view i) now k + count_by (λ l. is_kind l k) (kind ∷ [])
      grown =
          within_count-is i.window after.buckets.items now k
          ∙ ap (λ t. sum_in i.window now t now k) rows
          ∙ sum_in-later i.window i.latest now (table_by_age i.window.buckets i.buckets.items (bucket_of i.window i.latest)) (kind ∷ []) k ring.some

      at : (same : Bool) → is_kind kind k ≡ same → within_count i.window.buckets (bucket_of i.window now) k after.buckets.items ≤ 2 ^ 60
      at true e =
          let this : kind ≡ k = same_kind kind k e in
          let fewer : ring_count (ring_view i) now k < 2 ^ 60 = subst (λ l. ring_count (ring_view i) now l < 2 ^ 60) this few in
          let one : count_by (λ l. is_kind l k) (kind ∷ []) ≡ 1 = ap (λ b. 0 + (if b then 1 else 0)) e in
          omega (arith, grown, fewer, one)
      at false e =
          let none : count_by (λ l. is_kind l k) (kind ∷ []) ≡ 0 = ap (λ b. 0 + (if b then 1 else 0)) e in
          omega (arith, grown, none, sum_in-le i.window i.latest now (table_by_age i.window.buckets i.buckets.items (bucket_of i.window i.latest)) k, within_count-is i.window i.buckets.items i.latest k, ring.bounded k)

  -- and is a ring
  pub recorded_ring : IsRing after
  recorded_ring = record {
    some = ring.some;
    width = ring.width;
    buckets = length-set i.buckets.items (bucket_of i.window now % i.window.buckets) y ∙ ring.buckets;
    newest = refl;
    placed = placed;
    empty = all_set (IsEmptyAfter (bucket_of i.window now)) i.buckets.items (bucket_of i.window now % i.window.buckets) y
        (still_empty (bucket_of i.window i.latest) (bucket_of i.window now) i.buckets.items (div_mono i.latest now i.window.width later) ring.empty)
        (λ after. absurd (omega (arith, numbered)));
    bounded = bounded;
  }
    where
      placed : (q : ℕ) (e : Bucket) → q < i.window.buckets → (get_or (set i.buckets.items (bucket_of i.window now % i.window.buckets) y) q e).number % i.window.buckets ≡ q
      placed q e inside = elim (cases_eq q (bucket_of i.window now % i.window.buckets)) [
        | inl here ↦
            ap (λ p. (get_or (set i.buckets.items (bucket_of i.window now % i.window.buckets) y) p e).number % i.window.buckets) here
            ∙ ap (λ (b : Bucket). b.number % i.window.buckets) (get_or-set_same i.buckets.items (bucket_of i.window now % i.window.buckets) y e (omega (arith, ring.buckets, ring.some)))
            ∙ ap (λ m. m % i.window.buckets) numbered
            ∙ sym here
        | inr other ↦ ap (λ (b : Bucket). b.number % i.window.buckets) (get_or-set_other i.buckets.items (bucket_of i.window now % i.window.buckets) q y e other) ∙ ring.placed q e inside
      ]
