use Rattle.std.proofs.Common.{◌≡◌, ◌++◌, map, take, drop}
use Rattle.bh_rolling.specs.Buckets.{cleared}
use Rattle.bh_rolling.proofs.ring.clear_buckets.Given as goal

-- the buckets before the place are empty
abbrev pub invariant-loop-bucket : goal.invariant-loop-bucket
invariant-loop-bucket l = l.buckets ≡ map cleared (take l.bucket-index l.fn.buckets) ++ drop l.bucket-index l.fn.buckets
