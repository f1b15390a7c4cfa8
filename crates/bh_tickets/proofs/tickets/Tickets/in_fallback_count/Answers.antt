use Rattle.std.proofs.Common.{◌∙◌}
use Rattle.bh_tickets.specs.Counts.{in_fallback_of}
use Rattle.bh_tickets.proofs.Whole.{part_is, counted_is, groups_in}
use Rattle.bh_tickets.proofs.tickets.Tickets.in_fallback_count.Goals as goal

pub returns : goal.returns
returns c =
    let s = c.index.result.now in
    let is = part_is c.self.inside.arena c.self.inside.groups.items c.args.self.now c.args.group s c.self.view_is c.requires.group c.index.ensures in
    let counts = ((groups_in c.self.invariant.whole).each c.args.group s is).counts c.args.command c.requires.command in
    rw (← c.self.view_is) (counts.in_fallback ∙ counted_is c.self.inside.arena c.self.inside.groups.items c.args.group s (in_fallback_of c.args.command) (groups_in c.self.invariant.whole) is)
