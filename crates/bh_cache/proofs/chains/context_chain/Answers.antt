use Rattle.std.proofs.Common.{arith, ◌-◌}
use Rattle.bh_cache.proofs.Placed.{home_within}
use Rattle.bh_cache.proofs.chains.context_chain.Goals as goal

pub overflow_add-result : goal.overflow_add-result
overflow_add-result c = let k = home_within (c.args.lists.now.contexts_end - c.args.lists.now.contexts) c.args.context (omega arith) in omega (arith, k, c.place_of_context.ensures)
