use Rattle.std.proofs.Common.{arith, ◌-◌}
use Rattle.bh_cache.proofs.Placed.{place_within}
use Rattle.bh_cache.proofs.chains.name_chain.Goals as goal

pub overflow_add-result : goal.overflow_add-result
overflow_add-result c = let k = place_within (c.args.lists.now.names_end - c.args.lists.now.names) (c.args.context, c.args.key.now) (omega arith) in omega (arith, k, c.place_among.ensures)
