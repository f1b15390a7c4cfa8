use Rattle.std.proofs.Common.{◌≡◌, take}
use Rattle.bh_base.specs.History.{health_by}
use Rattle.bh_rolling.specs.Buckets.{within_count}
use Rattle.bh_rolling.proofs.ring.health_within.Given as goal

abbrev pub invariant-loop-bucket : goal.invariant-loop-bucket
invariant-loop-bucket l = l.health ≡ health_by (λ k. within_count l.count l.last k (take l.bucket-index l.buckets))
