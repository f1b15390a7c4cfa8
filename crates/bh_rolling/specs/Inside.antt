-- The fields of a ring, and what they show.
use Rattle.std.specs.Prelude.{◌≡◌, ℕ, ◌%◌, ◌<◌, ◌≤◌, ◌^◌, length, slice_index_or}
use Rattle.std.specs.List.{AllByRecursion}
use Rattle.bh_base.specs.declared.event.EventKind.{EventKind}
use Rattle.bh_base.specs.History.{bucket_of}
use Rattle.bh_rolling.specs.declared.ring.Bucket.{Bucket}
use Rattle.bh_rolling.specs.declared.ring.Ring.TheInside.{Inside}
use Rattle.bh_rolling.specs.Buckets.{table_by_age, within_count, IsEmptyAfter}
use Rattle.bh_rolling.specs.RingView.{RingView}
use Rattle.bh_rolling.specs.Stretches.{stretch_at}

abbrev pub ring_view : Inside → RingView
ring_view r = record { window = r.window; latest = r.latest; table = table_by_age r.window.buckets r.buckets.items (bucket_of r.window r.latest) }

-- there is a bucket for each of the window's, each in its place, the newest stretch is that of the latest moment, and no
-- count passes 2^60
pub record IsRing (r : Inside) : Type 0 where
  pub some : 0 < r.window.buckets
  pub width : 0 < r.window.width
  pub buckets : length r.buckets.items ≡ r.window.buckets
  pub newest : r.newest ≡ stretch_at r.window r.latest
  pub placed : (place : ℕ) (d : Bucket) → place < r.window.buckets → (slice_index_or r.buckets.items place d).number % r.window.buckets ≡ place
  pub empty : AllByRecursion (IsEmptyAfter (bucket_of r.window r.latest)) r.buckets.items
  pub bounded : (k : EventKind) → within_count r.window.buckets (bucket_of r.window r.latest) k r.buckets.items ≤ 2 ^ 60
