-- Health, added up over buckets.
use Rattle.std.specs.Prelude.{ℕ, ◌+◌}
use Rattle.bh_base.specs.declared.event.Health.{Health}
use Rattle.bh_base.specs.History.{health_by}
use Rattle.bh_rolling.specs.declared.ring.Bucket.{Bucket}
use Rattle.bh_rolling.specs.Buckets.{part_within}

-- the sum of two
abbrev pub healths_summed : Health → Health → Health
healths_summed a b = record { errors = a.errors + b.errors; total = a.total + b.total }

-- what the bucket has of it, where it has one of the n numbers up to `last`
abbrev pub health_part : ℕ → ℕ → Bucket → Health
health_part n last b = health_by (λ k. part_within n last k b)
