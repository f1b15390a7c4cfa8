use Rattle.std.proofs.Common.{sym, ap}
use Rattle.bh_tickets.specs.TicketsView.{GroupTickets}
use Rattle.bh_tickets.proofs.Whole.{part_is, group_is}
use Rattle.bh_tickets.proofs.tickets.Tickets.next_serial.Goals as goal

pub returns : goal.returns
returns c =
    let s = c.index.result.now in
    let is = part_is c.self.inside.arena c.self.inside.groups.items c.args.self.now c.args.group s c.self.view_is c.requires c.index.ensures in
    rw (← c.self.view_is) (ap (λ (z : GroupTickets). z.next) (sym (group_is c.self.inside.arena c.self.inside.groups.items c.args.group s is)))
