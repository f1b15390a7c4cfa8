use Rattle.bh_tickets.specs.Spare.{IsTaken}
use Rattle.bh_tickets.proofs.spare.take_slots.Given as goal

abbrev pub invariant-loop : goal.invariant-loop
invariant-loop l = IsTaken l.counter l.from l.to l.fn.arena l.arena
