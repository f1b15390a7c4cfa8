use Rattle.std.proofs.Common.{arith}
use Rattle.bh_tickets.proofs.Finds.{queue_found, queue_none, lists_there}
use Rattle.bh_tickets.proofs.Whole.{part_is, groups_in}
use Rattle.bh_tickets.proofs.tickets.Tickets.first_queued.Goals as goal

pub front-requires : goal.front-requires
front-requires c =
    let s = c.index-entry.result.now in
    let is = part_is c.self.inside.arena c.self.inside.groups.items c.args.self.now c.args.group s c.self.view_is c.requires c.index-entry.ensures in
    (omega arith, (omega arith, (lists_there c.self.inside.arena s ((groups_in c.self.invariant.whole).each c.args.group s is)).queued))

pub returns-clause-found : goal.returns-clause-found
returns-clause-found c =
    let s = c.index-entry.result.now in
    let is = part_is c.self.inside.arena c.self.inside.groups.items c.args.self.now c.args.group s c.self.view_is c.requires c.index-entry.ensures in
    rw (← c.self.view_is) (queue_found c.self.inside.arena c.self.inside.groups.items c.args.group s (groups_in c.self.invariant.whole) is c.front.result c.front.ensures)

pub returns-clause-none : goal.returns-clause-none
returns-clause-none c =
    let s = c.index-entry.result.now in
    let is = part_is c.self.inside.arena c.self.inside.groups.items c.args.self.now c.args.group s c.self.view_is c.requires c.index-entry.ensures in
    λ none. rw (← c.self.view_is) (queue_none c.self.inside.arena c.self.inside.groups.items c.args.group s (groups_in c.self.invariant.whole) is c.front.result c.front.ensures none)
