use Rattle.std.proofs.Common.{Ordering, nat_cmp}
use Rattle.std.specs.Ordering.{ordering_then}
use Rattle.bh_draw.specs.declared.order.Ranked.{Ranked}
use Rattle.bh_draw.proofs.Ranks.{ranks-rise}
use Rattle.bh_draw.proofs.order.ranking.Goals as goal

-- what decides between equal ranks
abbrev rest : Ranked → Ranked → Ordering
rest x y = ordering_then (nat_cmp x.requests y.requests) (ordering_then (nat_cmp x.panel y.panel) (nat_cmp x.lane y.lane))

pub returns : goal.returns
returns c = ranks-rise rest _ c.in_ok-sort.ensures.sorted
