use Rattle.bh_base.specs.Tickets.{is_cached_as}
use Rattle.bh_tickets.proofs.Exists.{name_found, name_none}
use Rattle.bh_tickets.proofs.Whole.{part_is, groups_in}
use Rattle.bh_tickets.proofs.tickets.Tickets.find_cached.Goals as goal

pub find-requires : goal.find-requires
find-requires c =
    let s = c.index-entry.result.now in
    let is = part_is c.self.inside.arena c.self.inside.groups.items c.args.self.now c.args.group s c.self.view_is c.requires c.index-entry.ensures in
    ((groups_in c.self.invariant.whole).each c.args.group s is).chained

pub returns-clause-found : goal.returns-clause-found
returns-clause-found c =
    let s = c.index-entry.result.now in
    let is = part_is c.self.inside.arena c.self.inside.groups.items c.args.self.now c.args.group s c.self.view_is c.requires c.index-entry.ensures in
    rw (← c.self.view_is) (name_found c.self.inside.arena c.self.inside.groups.items c.args.group s (groups_in c.self.invariant.whole) is (is_cached_as c.args.command (c.args.context, c.args.key.now)) c.find.result c.find.ensures.found)

pub returns-clause-none : goal.returns-clause-none
returns-clause-none c =
    let s = c.index-entry.result.now in
    let is = part_is c.self.inside.arena c.self.inside.groups.items c.args.self.now c.args.group s c.self.view_is c.requires c.index-entry.ensures in
    λ none. rw (← c.self.view_is) (name_none c.self.inside.arena c.self.inside.groups.items c.args.group s (groups_in c.self.invariant.whole) is (is_cached_as c.args.command (c.args.context, c.args.key.now)) (c.find.ensures.none none))
