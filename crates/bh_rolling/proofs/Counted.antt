-- What the buckets of a window count at the moment of a read.
use Rattle.std.proofs.Common.{◌≡◌, ℕ, ◌+◌, ◌<◌, ◌≤◌, List, [], ◌∙◌, ap, arith}
use Rattle.std.specs.List.{AllByRecursion}
use Rattle.bh_base.specs.declared.event.EventKind.{EventKind}
use Rattle.bh_base.specs.declared.event.Window.{Window}
use Rattle.bh_base.specs.History.{bucket_of}
use Rattle.bh_base.specs.Tables.{sum_in}
use Rattle.bh_base.proofs.LaterTables.{sum_in-later, sum_in-le}
use Rattle.bh_rolling.specs.declared.ring.Bucket.{Bucket}
use Rattle.bh_rolling.specs.Buckets.{table_by_age, within_count, IsEmptyAfter}
use Rattle.bh_rolling.proofs.Ages.{within_count-is}
use Rattle.bh_rolling.proofs.Later.{table_by_age-later}

module _ (w : Window) (buckets : List Bucket) (latest moment : ℕ) (k : EventKind) (some : 0 < w.buckets) (empty : AllByRecursion (IsEmptyAfter (bucket_of w latest)) buckets) (later : latest ≤ moment) where
  -- it is what the table counts
  pub counted : within_count w.buckets (bucket_of w moment) k buckets ≡ sum_in w latest (table_by_age w.buckets buckets (bucket_of w latest)) moment k
  counted =
      within_count-is w buckets moment k
      ∙ ap (λ t. sum_in w moment t moment k) (table_by_age-later w buckets latest moment empty later)
      ∙ sum_in-later w latest moment (table_by_age w.buckets buckets (bucket_of w latest)) [] k some
      ∙ none_more
    where
      none_more : sum_in w latest (table_by_age w.buckets buckets (bucket_of w latest)) moment k + 0 ≡ sum_in w latest (table_by_age w.buckets buckets (bucket_of w latest)) moment k
      none_more = omega arith

  -- and no more than at the latest moment
  pub counted-le : (most : ℕ) → within_count w.buckets (bucket_of w latest) k buckets ≤ most → within_count w.buckets (bucket_of w moment) k buckets ≤ most
  counted-le most few = omega (arith, counted, sum_in-le w latest moment (table_by_age w.buckets buckets (bucket_of w latest)) k, within_count-is w buckets latest k)
