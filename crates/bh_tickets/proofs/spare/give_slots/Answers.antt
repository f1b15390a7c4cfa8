use Rattle.std.proofs.Common.{arith}
use Rattle.bh_cache.proofs.Walks.{arena_is}
use Rattle.bh_tickets.proofs.Given.{given_all}
use Rattle.bh_tickets.proofs.spare.give_slots.Goals as goal

pub gather-requires-clause-few : goal.gather-requires-clause-few
gather-requires-clause-few c = omega (arith, c.is_number.ensures, c.requires.giver.numbered.settled)

pub gather-requires-2-clause-few : goal.gather-requires-2-clause-few
gather-requires-2-clause-few c = omega (arith, c.is_number-2.ensures, c.requires.giver.chained.lists.names_some)

pub gather-requires-3-clause-few : goal.gather-requires-3-clause-few
gather-requires-3-clause-few c = omega (arith, c.is_number-3.ensures, c.requires.giver.chained.lists.contexts_some)

pub returns : goal.returns
returns c =
    given_all c.args.arena.now c.gather.new.arena c.gather-2.new.arena c.gather-3.new.arena c.args.group.now c.args.to.now c.requires.giver c.requires.taker c.requires.apart
    (arena_is c.args.arena.now 0 (omega (arith, c.partition.ensures.families)) c.partition.ensures.lists)
    (arena_is c.gather-3.new.arena 0 (omega (arith, c.partition-2.ensures.families)) c.partition-2.ensures.lists)
    c.gather.ensures c.gather-2.ensures c.gather-3.ensures
