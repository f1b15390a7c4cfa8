use Rattle.std.proofs.Common.{refl}
use Rattle.bh_tickets.proofs.Uncached.{uncached_is}
use Rattle.bh_tickets.proofs.group_slots.drop_cached.Goals as goal

pub returns : goal.returns
returns c =
    uncached_is c.args.arena.now c.drop_context.new.arena c.args.group.now c.args.context c.drop_context.result c.requires.arena c.requires.group c.drop_context.ensures.dropped _ c.drop_context.new.notes refl
    c.drop_context.ensures.noted
