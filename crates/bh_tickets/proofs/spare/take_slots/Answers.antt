use Rattle.bh_tickets.proofs.Taken.{taken_more, taken_none}
use Rattle.bh_tickets.proofs.spare.take_slots.Goals as goal

pub loop-init : goal.loop-init
loop-init c = taken_none c.args.from.now c.args.to.now c.args.arena.now c.requires.giver c.requires.taker

pub loop-preserved : goal.loop-preserved
loop-preserved c = taken_more c.loop.counter c.args.from.now c.args.to.now c.args.arena.now c.loop.arena c.take_slot.new.arena c.loop.invariant c.take_slot.ensures
