use Rattle.std.proofs.Common.{false, sym, ◌∙◌}
use Rattle.bh_cache.proofs.Walks.{on_queued, on_running}
use Rattle.bh_tickets.specs.TicketsView.{is_used}
use Rattle.bh_tickets.proofs.Finds.{lists_there}
use Rattle.bh_tickets.proofs.Exists.{one_shown, any_of_three}
use Rattle.bh_tickets.proofs.Whole.{groups_in, part_is}
use Rattle.bh_tickets.proofs.tickets.Tickets.any_used.Goals as goal
use Rattle.bh_tickets.proofs.tickets.Tickets.any_used.Goals.{then-any_used_on, else-any_used_on}

pub any_used_on-requires : goal.any_used_on-requires
any_used_on-requires c =
    let s = c.index-entry.result.now in
    let is = part_is c.self.inside.arena c.self.inside.groups.items c.args.self.now c.args.group s c.self.view_is c.requires c.index-entry.ensures in
    (lists_there c.self.inside.arena s ((groups_in c.self.invariant.whole).each c.args.group s is)).queued

pub any_used_on-requires-else-any_used_on : goal.any_used_on-requires-else-any_used_on
any_used_on-requires-else-any_used_on c =
    let s = c.index-entry.result.now in
    let is = part_is c.self.inside.arena c.self.inside.groups.items c.args.self.now c.args.group s c.self.view_is c.requires c.index-entry.ensures in
    (lists_there c.self.inside.arena s ((groups_in c.self.invariant.whole).each c.args.group s is)).running

pub any_used_on-requires-else-any_used_on-2 : goal.any_used_on-requires-else-any_used_on-2
any_used_on-requires-else-any_used_on-2 c =
    let s = c.index-entry.result.now in
    let is = part_is c.self.inside.arena c.self.inside.groups.items c.args.self.now c.args.group s c.self.view_is c.requires c.index-entry.ensures in
    (lists_there c.self.inside.arena s ((groups_in c.self.invariant.whole).each c.args.group s is)).settled

pub returns-then-any_used_on-2 : goal.returns-then-any_used_on-2
returns-then-any_used_on-2 c =
    let s = c.index-entry.result.now in
    let is = part_is c.self.inside.arena c.self.inside.groups.items c.args.self.now c.args.group s c.self.view_is c.requires c.index-entry.ensures in
    rw (← c.self.view_is) (c.if-any_used_on-2.true ∙ elim c.if-any_used_on.branch [
      | then-any_used_on w ↦ one_shown c.self.inside.arena c.self.inside.groups.items c.args.group s (groups_in c.self.invariant.whole) is is_used s.lists.queued (on_queued c.self.inside.arena s.lists) (sym c.any_used_on.ensures ∙ w.if-any_used_on.true)
      | else-any_used_on w ↦ one_shown c.self.inside.arena c.self.inside.groups.items c.args.group s (groups_in c.self.invariant.whole) is is_used s.lists.running (on_running c.self.inside.arena s.lists) (sym w.any_used_on-else-any_used_on.ensures ∙ sym w.value-is ∙ c.if-any_used_on-2.true)
    ])

pub returns-else-any_used_on-2 : goal.returns-else-any_used_on-2
returns-else-any_used_on-2 c =
    let s = c.index-entry.result.now in
    let is = part_is c.self.inside.arena c.self.inside.groups.items c.args.self.now c.args.group s c.self.view_is c.requires c.index-entry.ensures in
    rw (← c.self.view_is) (elim c.if-any_used_on.branch [
      | then-any_used_on w ↦ absurd cc
      | else-any_used_on w ↦ any_of_three c.self.inside.arena c.self.inside.groups.items c.args.group s (groups_in c.self.invariant.whole) is is_used false false c.any_used_on-else-any_used_on-2.result (sym w.if-any_used_on.false ∙ c.any_used_on.ensures) (sym c.if-any_used_on-2.false ∙ w.value-is ∙ w.any_used_on-else-any_used_on.ensures) c.any_used_on-else-any_used_on-2.ensures
    ])
