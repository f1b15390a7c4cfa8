use Rattle.std.proofs.Common.{◌≡◌, List, length, map, filter, ap, subst, ◌∙◌, arith}
use Rattle.std.specs.Prelude.{replicate}
use Rattle.bh_base.specs.declared.ticket.Ticket.{Ticket}
use Rattle.bh_base.specs.Runs.{View}
use Rattle.bh_base.proofs.Few.{filter_few}
use Rattle.bh_tickets.specs.Changes.{is_due_by, timed_out_by}
use Rattle.bh_tickets.specs.declared.states.DueRule.{DueRule}
use Rattle.bh_tickets.specs.TicketsView.{group_at}
use Rattle.bh_core.specs.GroupView.{GroupView, view_in}
use Rattle.bh_core.specs.Stepping.{due_of, due_rule_of, with_events}
use Rattle.bh_core.proofs.Below.{timeout_of}
use Rattle.bh_core.proofs.group.Group.time_out.Goals as goal

pub record_timeouts-requires-clause-few : goal.record_timeouts-requires-clause-few
record_timeouts-requires-clause-few c =
    let items : List Ticket = (group_at c.args.tickets.now c.self.inside.place).items in
    omega (arith, c.time_out-count.ensures.count, filter_few (is_due_by c.due_rule-due.result) items, (rw (← c.self.view_is) at c.requires.has.few), c.self.invariant.served.slots, c.requires.few)

pub returns-clause-few : goal.returns-clause-few
returns-clause-few c =
    let items : List Ticket = (group_at c.args.tickets.now c.self.inside.place).items in
    omega (arith, c.time_out-count.ensures.count, filter_few (is_due_by c.due_rule-due.result) items, (rw (← c.self.view_is) at c.requires.has.few), c.self.invariant.served.slots)

pub returns-clause-count : goal.returns-clause-count
returns-clause-count c =
    let ts = c.args.tickets.now in
    let v : View = view_in ts c.args.self.now in
    c.time_out-count.ensures.count ∙ ap (λ (k : GroupView). length (filter (is_due_by c.due_rule-due.result) (group_at ts k.place).items)) c.self.view_is
    ∙ ap (λ (r : DueRule). length (filter (is_due_by r) v.present.tickets)) (c.due_rule-due.ensures ts)

pub returns-clause-view : goal.returns-clause-view
returns-clause-view c =
    let ts = c.args.tickets.now in
    let us = c.time_out-count.new.self in
    let h : GroupView = c.args.self.now in
    let n = c.args.command in
    let v : View = view_in ts h in
    let rule : c.due_rule-due.result ≡ due_rule_of n v.present = c.due_rule-due.ensures ts in
    let number : c.time_out-count.result ≡ length (due_of n v.present) =
    c.time_out-count.ensures.count ∙ ap (λ (k : GroupView). length (filter (is_due_by c.due_rule-due.result) (group_at ts k.place).items)) c.self.view_is
    ∙ ap (λ (r : DueRule). length (filter (is_due_by r) v.present.tickets)) rule in
    let items : (group_at us h.place).items ≡ map (timed_out_by (due_rule_of n v.present)) (group_at ts h.place).items =
    subst (λ (k : GroupView). (group_at us k.place).items ≡ map (timed_out_by c.due_rule-due.result) (group_at ts k.place).items) c.self.view_is c.time_out-count.ensures.items
    ∙ ap (λ (r : DueRule). map (timed_out_by r) (group_at ts h.place).items) rule in
    let next : (group_at us h.place).next ≡ (group_at ts h.place).next = subst (λ (k : GroupView). (group_at us k.place).next ≡ (group_at ts k.place).next) c.self.view_is c.time_out-count.ensures.left.next in
    let timed : View = record v { present = record v.present { tickets = map (timed_out_by (due_rule_of n v.present)) v.present.tickets } } in
    let same : view_in us h ≡ timed = λ i. record v { present = record v.present { tickets = items i; serial = next i } } in
    c.record_timeouts.ensures.view us ∙ (λ i. with_events (replicate (number i) (timeout_of n)) (same i))
