use Rattle.std.proofs.Common.{arith}
use Rattle.bh_cache.proofs.Walks.{arena_is}
use Rattle.bh_tickets.proofs.growth.add_slot.Goals as goal

pub returns : goal.returns
returns c = record {
  blank = c.blank_ticket.result;
  is = c.add_reserved.ensures.added;
  arena = arena_is c.add_reserved.new.self 0 (omega (arith, c.partition.ensures.families)) c.partition.ensures.lists;
}
