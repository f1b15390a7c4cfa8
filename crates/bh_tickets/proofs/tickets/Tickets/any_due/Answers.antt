use Rattle.std.proofs.Common.{false, sym, ◌∙◌}
use Rattle.bh_tickets.proofs.Finds.{lists_there}
use Rattle.bh_tickets.specs.Changes.{is_due_by}
use Rattle.bh_tickets.proofs.Exists.{due_queued, due_either, none_at_all}
use Rattle.bh_tickets.proofs.Rising.{queue_rises, running_rises}
use Rattle.bh_tickets.proofs.SinceAll.{none_due}
use Rattle.bh_tickets.proofs.Whole.{part_is, groups_in}
use Rattle.bh_tickets.proofs.tickets.Tickets.any_due.Goals as goal

pub may_be_due-requires : goal.may_be_due-requires
may_be_due-requires c =
    let s = c.index-entry.result.now in
    let is = part_is c.self.inside.arena c.self.inside.groups.items c.args.self.now c.args.group s c.self.view_is c.requires c.index-entry.ensures in
    ((groups_in c.self.invariant.whole).each c.args.group s is).commands

pub returns-then-not-may_be_due : goal.returns-then-not-may_be_due
returns-then-not-may_be_due c =
    let s = c.index-entry.result.now in
    let is = part_is c.self.inside.arena c.self.inside.groups.items c.args.self.now c.args.group s c.self.view_is c.requires c.index-entry.ensures in
    rw (← c.self.view_is) (none_at_all c.self.inside.arena c.self.inside.groups.items c.args.group s (groups_in c.self.invariant.whole) is (is_due_by c.args.due.now)
    (none_due c.self.inside.arena s c.args.due.now ((groups_in c.self.invariant.whole).each c.args.group s is) (sym c.may_be_due.ensures ∙ c.if-not-may_be_due.true)))

pub any_due_on-requires-clause-list : goal.any_due_on-requires-clause-list
any_due_on-requires-clause-list c =
    let s = c.index-entry.result.now in
    let is = part_is c.self.inside.arena c.self.inside.groups.items c.args.self.now c.args.group s c.self.view_is c.requires c.index-entry.ensures in
    (lists_there c.self.inside.arena s ((groups_in c.self.invariant.whole).each c.args.group s is)).queued

pub any_due_on-requires-clause-rising : goal.any_due_on-requires-clause-rising
any_due_on-requires-clause-rising c =
    let s = c.index-entry.result.now in
    let is = part_is c.self.inside.arena c.self.inside.groups.items c.args.self.now c.args.group s c.self.view_is c.requires c.index-entry.ensures in
    queue_rises c.self.inside.arena s (groups_in c.self.invariant.whole).arena ((groups_in c.self.invariant.whole).each c.args.group s is)

pub any_due_on-requires-else-any_due_on-clause-list : goal.any_due_on-requires-else-any_due_on-clause-list
any_due_on-requires-else-any_due_on-clause-list c =
    let s = c.index-entry.result.now in
    let is = part_is c.self.inside.arena c.self.inside.groups.items c.args.self.now c.args.group s c.self.view_is c.requires c.index-entry.ensures in
    (lists_there c.self.inside.arena s ((groups_in c.self.invariant.whole).each c.args.group s is)).running

pub any_due_on-requires-else-any_due_on-clause-rising : goal.any_due_on-requires-else-any_due_on-clause-rising
any_due_on-requires-else-any_due_on-clause-rising c =
    let s = c.index-entry.result.now in
    let is = part_is c.self.inside.arena c.self.inside.groups.items c.args.self.now c.args.group s c.self.view_is c.requires c.index-entry.ensures in
    running_rises c.self.inside.arena s c.running_rises.result (groups_in c.self.invariant.whole).arena ((groups_in c.self.invariant.whole).each c.args.group s is) c.running_rises.ensures

pub returns-then-any_due_on : goal.returns-then-any_due_on
returns-then-any_due_on c =
    let s = c.index-entry.result.now in
    let is = part_is c.self.inside.arena c.self.inside.groups.items c.args.self.now c.args.group s c.self.view_is c.requires c.index-entry.ensures in
    rw (← c.self.view_is) (c.if-any_due_on.true ∙ due_queued c.self.inside.arena c.self.inside.groups.items c.args.group s (groups_in c.self.invariant.whole) is c.args.due.now (sym c.any_due_on.ensures ∙ c.if-any_due_on.true))

pub returns-else-any_due_on : goal.returns-else-any_due_on
returns-else-any_due_on c =
    let s = c.index-entry.result.now in
    let is = part_is c.self.inside.arena c.self.inside.groups.items c.args.self.now c.args.group s c.self.view_is c.requires c.index-entry.ensures in
    rw (← c.self.view_is) (due_either c.self.inside.arena c.self.inside.groups.items c.args.group s (groups_in c.self.invariant.whole) is c.args.due.now false c.any_due_on-else-any_due_on.result (sym c.if-any_due_on.false ∙ c.any_due_on.ensures) c.any_due_on-else-any_due_on.ensures)
