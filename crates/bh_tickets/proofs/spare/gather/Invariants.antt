use Rattle.bh_tickets.specs.Spare.{IsGathered}
use Rattle.bh_tickets.proofs.spare.gather.Given as goal

abbrev pub invariant-loop-offset : goal.invariant-loop-offset
invariant-loop-offset l = IsGathered l.family l.first l.offset l.to l.fn.arena l.arena
