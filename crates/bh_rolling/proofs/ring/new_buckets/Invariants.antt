use Rattle.std.proofs.Common.{◌≡◌, map}
use Rattle.std.specs.List.{range_with_len}
use Rattle.bh_rolling.specs.Buckets.{fresh}
use Rattle.bh_rolling.proofs.ring.new_buckets.Given as goal

abbrev pub invariant-loop-number : goal.invariant-loop-number
invariant-loop-number l = l.buckets.items ≡ map fresh (range_with_len 0 l.number)
