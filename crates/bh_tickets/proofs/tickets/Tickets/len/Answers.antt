use Rattle.std.proofs.Common.{◌∙◌}
use Rattle.bh_tickets.proofs.Whole.{part_is, len_is, groups_in}
use Rattle.bh_tickets.proofs.tickets.Tickets.len.Goals as goal

pub returns : goal.returns
returns c =
    let s = c.index.result.now in
    let is = part_is c.self.inside.arena c.self.inside.groups.items c.args.self.now c.args.group s c.self.view_is c.requires c.index.ensures in
    rw (← c.self.view_is) (c.taken.ensures.number ∙ len_is c.self.inside.arena c.self.inside.groups.items c.args.group s (groups_in c.self.invariant.whole) is)
