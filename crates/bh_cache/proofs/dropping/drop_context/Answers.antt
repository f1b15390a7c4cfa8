use Rattle.std.proofs.Common.{subst, arith}
use Rattle.bh_slot_arena.specs.Slots.{slots_on}
use Rattle.bh_cache.specs.Cache.{IsDroppedFrom}
use Rattle.bh_cache.specs.Chains.{context_chain}
use Rattle.bh_cache.specs.Notes.{AreNoted}
use Rattle.bh_cache.specs.Slots.{IsArena, has}
use Rattle.bh_cache.proofs.Dropped.{dropped_group}
use Rattle.bh_cache.proofs.Found.{chain_has_all}
use Rattle.bh_cache.proofs.Noting.{noted_group}
use Rattle.bh_cache.proofs.Placed.{context_chain_before_end}
use Rattle.bh_cache.proofs.Walks.{arena_is}
use Rattle.bh_cache.proofs.dropping.drop_context.Goals as goal

pub drop_chain-requires-clause-to : goal.drop_chain-requires-clause-to
drop_chain-requires-clause-to c =
    let k = context_chain_before_end c.args.arena.now c.args.lists.now c.requires.chained.lists c.args.context in
    omega (arith, k, c.context_chain-chain.ensures)

pub returns-clause-dropped : goal.returns-clause-dropped
returns-clause-dropped c =
    let a = c.args.arena.now in
    let g = c.args.lists.now in
    let arena : IsArena a 2 = arena_is a 2 (omega (arith, c.partition.ensures.families)) c.partition.ensures.lists in
    dropped_group c.args.context a c.drop_chain.new.arena g c.drop_chain.result (slots_on a 2 (context_chain g c.args.context))
    (subst (λ l. IsDroppedFrom c.args.context g (slots_on a 2 l) a c.drop_chain.new.arena c.drop_chain.result) c.context_chain-chain.ensures c.drop_chain.ensures.dropped)
    (chain_has_all a g c.requires.chained arena c.args.context)

pub returns-clause-noted : goal.returns-clause-noted
returns-clause-noted c =
    let a = c.args.arena.now in
    let g = c.args.lists.now in
    let arena : IsArena a 2 = arena_is a 2 (omega (arith, c.partition.ensures.families)) c.partition.ensures.lists in
    noted_group c.args.context a g (slots_on a 2 (context_chain g c.args.context)) c.args.notes.now c.drop_chain.new.notes (chain_has_all a g c.requires.chained arena c.args.context)
    (subst (λ l. AreNoted c.args.context (λ x. has x (slots_on a 2 l)) a c.args.notes.now c.drop_chain.new.notes) c.context_chain-chain.ensures c.drop_chain.ensures.noted)
