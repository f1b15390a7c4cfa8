use Rattle.std.proofs.Common.{◌≡◌, take}
use Rattle.bh_base.specs.History.{counts_by}
use Rattle.bh_rolling.specs.Buckets.{within_count}
use Rattle.bh_rolling.proofs.ring.sum_within.Given as goal

abbrev pub invariant-loop-bucket : goal.invariant-loop-bucket
invariant-loop-bucket l = l.sums ≡ counts_by (λ k. within_count l.count l.last k (take l.bucket-index l.buckets))
