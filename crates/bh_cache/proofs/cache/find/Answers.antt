use Rattle.std.proofs.Common.{arith, ◌∙◌, ap, ℕ, List, None}
use Rattle.bh_base.specs.Tickets.{is_cached_as}
use Rattle.bh_slot_arena.specs.Slots.{slots_on}
use Rattle.bh_cache.specs.Cache.{earliest}
use Rattle.bh_cache.specs.Slots.{IsArena}
use Rattle.bh_cache.proofs.Earliest.{if_found, if_none}
use Rattle.bh_cache.proofs.Found.{name_best}
use Rattle.bh_cache.proofs.Placed.{name_chain_before_end}
use Rattle.bh_cache.proofs.Walks.{arena_is}
use Rattle.bh_cache.proofs.cache.find.Goals as goal

pub find_on-requires : goal.find_on-requires
find_on-requires c =
    let k = name_chain_before_end c.args.arena.now c.args.lists.now c.requires.lists (c.args.context, c.args.key.now) in
    omega (arith, k, c.name_chain-chain.ensures, c.requires.lists.names_there)

pub returns-clause-found : goal.returns-clause-found
returns-clause-found c =
    let name : ℕ × List ℕ = (c.args.context, c.args.key.now) in
    let a = c.args.arena.now in
    let arena : IsArena a 1 = arena_is a 1 (omega (arith, c.partition.ensures.families)) c.partition.ensures.lists in
    if_found (is_cached_as c.args.command name) a c.args.lists.now c.find_on.result (name_best a c.args.lists.now c.args.command name c.requires arena c.find_on.result (c.find_on.ensures ∙ ap (λ l. earliest (is_cached_as c.args.command name) a.payloads None (slots_on a 1 l)) c.name_chain-chain.ensures))

pub returns-clause-none : goal.returns-clause-none
returns-clause-none c =
    let name : ℕ × List ℕ = (c.args.context, c.args.key.now) in
    let a = c.args.arena.now in
    let arena : IsArena a 1 = arena_is a 1 (omega (arith, c.partition.ensures.families)) c.partition.ensures.lists in
    if_none (is_cached_as c.args.command name) a c.args.lists.now c.find_on.result (name_best a c.args.lists.now c.args.command name c.requires arena c.find_on.result (c.find_on.ensures ∙ ap (λ l. earliest (is_cached_as c.args.command name) a.payloads None (slots_on a 1 l)) c.name_chain-chain.ensures))
