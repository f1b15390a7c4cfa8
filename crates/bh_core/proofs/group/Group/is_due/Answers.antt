use Rattle.std.proofs.Common.{◌≡◌, true, false, List, filter, sym, ap, ◌∙◌, arith}
use Rattle.std.specs.List.{list_any}
use Rattle.bh_base.specs.declared.ticket.Ticket.{Ticket}
use Rattle.bh_base.specs.Commands.{command_count}
use Rattle.bh_base.specs.Machine.{Present, is_due}
use Rattle.bh_base.specs.Runs.{View, begun, is_worn}
use Rattle.bh_tickets.specs.Changes.{is_due_by}
use Rattle.bh_tickets.specs.declared.states.DueRule.{DueRule}
use Rattle.bh_tickets.specs.TicketsView.{group_at}
use Rattle.bh_core.specs.GroupView.{GroupView, view_in}
use Rattle.bh_core.specs.Stepping.{due_rule_of}
use Rattle.bh_core.proofs.Below.{all_below, any_first, any_more, any_one, any_passing, is_due_below}
use Rattle.bh_core.proofs.Looks.{expire_seen}
use Rattle.bh_core.proofs.group.Group.is_due.Goals as goal

pub loop-command-init : goal.loop-command-init
loop-command-init c = any_first (λ t. true) (begun c.args.now (view_in c.args.tickets.now c.args.self.now).present) (group_at c.args.tickets.now c.args.self.now.place).items

pub returns-then-any_due : goal.returns-then-any_due
returns-then-any_due c =
    let v : View = view_in c.args.tickets.now c.args.self.now in
    let g : Present = begun c.args.now v.present in
    let ts : List Ticket = g.tickets in
    let fresh : is_worn v.present ≡ false = sym c.is_worn.ensures ∙ c.if-is_worn.false in
    let rule : record c.due_rule.result { moment = c.moment_of-moment.result } ≡ due_rule_of c.loop-command.command g = λ i. record (c.due_rule.ensures c.args.tickets.now i) { moment = c.moment_of-moment.ensures i } in
    let asked : c.any_due.result ≡ list_any (is_due_by (record c.due_rule.result { moment = c.moment_of-moment.result })) ts = c.any_due.ensures ∙ ap (λ (k : GroupView). list_any (is_due_by (record c.due_rule.result { moment = c.moment_of-moment.result })) (group_at c.args.tickets.now k.place).items) c.self.view_is in
    let found : list_any (λ t. true) (filter (is_due_by (due_rule_of c.loop-command.command g)) ts) ≡ true =
    any_passing (is_due_by (due_rule_of c.loop-command.command g)) ts ∙ ap (λ (r : DueRule). list_any (is_due_by r) ts) (sym rule) ∙ sym asked ∙ c.if-any_due.true in
    sym (any_one (λ t. true) c.loop-command.command g ts found) ∙ any_passing (is_due g) ts ∙ expire_seen v c.args.now fresh

pub loop-command-preserved : goal.loop-command-preserved
loop-command-preserved c =
    let v : View = view_in c.args.tickets.now c.args.self.now in
    let g : Present = begun c.args.now v.present in
    let ts : List Ticket = g.tickets in
    let rule : record c.due_rule.result { moment = c.moment_of-moment.result } ≡ due_rule_of c.loop-command.command g = λ i. record (c.due_rule.ensures c.args.tickets.now i) { moment = c.moment_of-moment.ensures i } in
    let asked : c.any_due.result ≡ list_any (is_due_by (record c.due_rule.result { moment = c.moment_of-moment.result })) ts = c.any_due.ensures ∙ ap (λ (k : GroupView). list_any (is_due_by (record c.due_rule.result { moment = c.moment_of-moment.result })) (group_at c.args.tickets.now k.place).items) c.self.view_is in
    let none : list_any (λ t. true) (filter (is_due_by (due_rule_of c.loop-command.command g)) ts) ≡ false =
    any_passing (is_due_by (due_rule_of c.loop-command.command g)) ts ∙ ap (λ (r : DueRule). list_any (is_due_by r) ts) (sym rule) ∙ sym asked ∙ c.if-any_due.false in
    any_more (λ t. true) c.loop-command.command g ts c.loop-command.invariant none

pub returns : goal.returns
returns c =
    let v : View = view_in c.args.tickets.now c.args.self.now in
    let g : Present = begun c.args.now v.present in
    let ts : List Ticket = g.tickets in
    let fresh : is_worn v.present ≡ false = sym c.is_worn.ensures ∙ c.if-is_worn.false in
    let last : c.loop-command.command ≡ command_count c.args.self.now.props = omega (arith, c.loop-command.auto.command-end, c.loop-command-test.false, c.command_count-command-end.ensures.number) in
    let none : list_any (λ t. true) (filter (is_due g) ts) ≡ false =
    sym (ap (list_any (λ t. true)) (all_below g ts c.requires.steady.known)) ∙ ap (λ n. list_any (λ (t : Ticket). true) (filter (is_due_below n g) ts)) (sym last) ∙ c.loop-command.invariant in
    sym none ∙ any_passing (is_due g) ts ∙ expire_seen v c.args.now fresh
