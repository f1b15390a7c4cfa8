use Rattle.bh_tickets.proofs.ReleasedAll.{released_empty}
use Rattle.bh_tickets.proofs.sweeps.release.Goals as goal

pub returns-then-is_nothing-clause-released : goal.returns-then-is_nothing-clause-released
returns-then-is_nothing-clause-released c = released_empty c.args.arena.now c.args.group.now c.requires.arena c.requires.group (c.is_nothing.ensures c.if-is_nothing.true)
