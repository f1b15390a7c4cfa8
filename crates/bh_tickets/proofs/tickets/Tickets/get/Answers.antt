use Rattle.std.proofs.Common.{arith}
use Rattle.bh_tickets.proofs.Whole.{some_part, slot_there, groups_in}
use Rattle.bh_tickets.proofs.tickets.Tickets.get.Goals as goal

pub get-requires : goal.get-requires
get-requires c = (omega arith, slot_there c.self.inside.arena c.self.inside.groups.items c.args.group c.args.slot c.requires.there.ticket (groups_in c.self.invariant.whole) (rw (← c.self.view_is) at c.requires.group) (rw (← c.self.view_is) at c.requires.there.here))

pub returns : goal.returns
returns c = rw (← c.self.view_is) (some_part c.self.inside.arena c.self.inside.groups.items c.args.group c.args.slot c.requires.there.ticket c.get.result.now (groups_in c.self.invariant.whole) (rw (← c.self.view_is) at c.requires.group) (rw (← c.self.view_is) at c.requires.there.here) c.get.ensures)
