use Rattle.std.proofs.Common.{◌≡◌, true, false, List, filter, sym, ap, ◌∙◌, arith}
use Rattle.std.specs.Prelude.{◌==◌}
use Rattle.std.specs.List.{list_any}
use Rattle.bh_base.specs.declared.ticket.Ticket.{Ticket}
use Rattle.bh_base.specs.Commands.{command_count}
use Rattle.bh_base.specs.Machine.{Present}
use Rattle.bh_tickets.specs.Changes.{is_due_by}
use Rattle.bh_tickets.specs.declared.states.DueRule.{DueRule}
use Rattle.bh_tickets.specs.TicketsView.{group_at}
use Rattle.bh_core.specs.GroupView.{GroupView, view_in}
use Rattle.bh_core.specs.Stepping.{due_rule_of}
use Rattle.bh_core.proofs.Below.{all_below, any_first, any_more, any_one, is_due_below}
use Rattle.bh_core.proofs.group.Group.is_ticket_due.Goals as goal

pub loop-command-init : goal.loop-command-init
loop-command-init c = any_first (λ t. t.serial == c.args.serial) (view_in c.args.tickets.now c.args.self.now).present (group_at c.args.tickets.now c.args.self.now.place).items

pub returns-then-is_due : goal.returns-then-is_due
returns-then-is_due c =
    let g : Present = (view_in c.args.tickets.now c.args.self.now).present in
    let ts : List Ticket = g.tickets in
    let asked : c.is_due.result ≡ list_any (λ t. t.serial == c.args.serial) (filter (is_due_by c.due_rule.result) ts) = c.is_due.ensures ∙ ap (λ (k : GroupView). list_any (λ (t : Ticket). t.serial == c.args.serial) (filter (is_due_by c.due_rule.result) (group_at c.args.tickets.now k.place).items)) c.self.view_is in
    let found : list_any (λ t. t.serial == c.args.serial) (filter (is_due_by (due_rule_of c.loop-command.command g)) ts) ≡ true =
    ap (λ (r : DueRule). list_any (λ (t : Ticket). t.serial == c.args.serial) (filter (is_due_by r) ts)) (sym (c.due_rule.ensures c.args.tickets.now)) ∙ sym asked ∙ c.if-is_due.true in
    sym (any_one (λ t. t.serial == c.args.serial) c.loop-command.command g ts found)

pub loop-command-preserved : goal.loop-command-preserved
loop-command-preserved c =
    let g : Present = (view_in c.args.tickets.now c.args.self.now).present in
    let ts : List Ticket = g.tickets in
    let asked : c.is_due.result ≡ list_any (λ t. t.serial == c.args.serial) (filter (is_due_by c.due_rule.result) ts) = c.is_due.ensures ∙ ap (λ (k : GroupView). list_any (λ (t : Ticket). t.serial == c.args.serial) (filter (is_due_by c.due_rule.result) (group_at c.args.tickets.now k.place).items)) c.self.view_is in
    let none : list_any (λ t. t.serial == c.args.serial) (filter (is_due_by (due_rule_of c.loop-command.command g)) ts) ≡ false =
    ap (λ (r : DueRule). list_any (λ (t : Ticket). t.serial == c.args.serial) (filter (is_due_by r) ts)) (sym (c.due_rule.ensures c.args.tickets.now)) ∙ sym asked ∙ c.if-is_due.false in
    any_more (λ t. t.serial == c.args.serial) c.loop-command.command g ts c.loop-command.invariant none

pub returns : goal.returns
returns c =
    let g : Present = (view_in c.args.tickets.now c.args.self.now).present in
    let ts : List Ticket = g.tickets in
    let last : c.loop-command.command ≡ command_count c.args.self.now.props = omega (arith, c.loop-command.auto.command-end, c.loop-command-test.false, c.command_count-command-end.ensures.number) in
    sym (sym (ap (list_any (λ t. t.serial == c.args.serial)) (all_below g ts c.requires.tickets)) ∙ ap (λ n. list_any (λ (t : Ticket). t.serial == c.args.serial) (filter (is_due_below n g) ts)) (sym last) ∙ c.loop-command.invariant)
