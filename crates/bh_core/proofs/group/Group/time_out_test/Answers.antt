use Rattle.std.proofs.Common.{◌≡◌, ◌<◌, false, true, List, length, filter, sym, ap, ◌∙◌, arith}
use Rattle.std.specs.Prelude.{◌==◌}
use Rattle.std.specs.List.{list_any}
use Rattle.std.proofs.lemmas.List.{length-map}
use Rattle.bh_base.specs.declared.circuit.CircuitState.TheVariants as state
use Rattle.bh_base.specs.Circuit.{new_circuit}
use Rattle.bh_base.specs.Machine.{circuit_of, is_due}
use Rattle.bh_base.specs.Runs.{View}
use Rattle.bh_core.specs.declared.command.Command.{Command}
use Rattle.bh_core.specs.Command.{circuit_in}
use Rattle.bh_core.specs.GroupView.{group_view, view_in}
use Rattle.bh_core.proofs.Commands.{as_many, read_at}
use Rattle.bh_core.proofs.Timeouts.{test_ends, test_keeps, test_not_due}
use Rattle.bh_core.proofs.group.Group.time_out_test.Goals as goal

pub returns-in-HalfOpen-clause-view : goal.returns-in-HalfOpen-clause-view
returns-in-HalfOpen-clause-view c =
    let cs : List Command = c.self.inside.commands.items in
    let n = c.args.command in
    let x : Command = c.index.result.now in
    let d : View = view_in c.args.tickets.now (group_view c.self.inside) in
    let inside : n < length cs = omega (arith, (rw (← c.self.view_is) at c.requires.known), as_many cs c.self.inside.props.commands c.self.invariant.windows) in
    let half : (circuit_of n d.present).state ≡ state.HalfOpen c.in-HalfOpen.field-0 c.in-HalfOpen.test = ap (λ k. k.state) (read_at circuit_in cs n x new_circuit inside c.index.ensures) ∙ sym c.state.ensures ∙ c.in-HalfOpen.is in
    let any : list_any (λ t. t.serial == c.in-HalfOpen.test) (filter (is_due d.present) d.present.tickets) ≡ true = sym (rw (← c.self.view_is) at c.is_ticket_due.ensures) ∙ c.if-is_ticket_due.true in
    rw (← c.self.view_is) ((rw (← c.self.view_is) at c.tell_circuit.ensures.view c.args.tickets.now) ∙ test_ends d n c.in-HalfOpen.field-0 c.in-HalfOpen.test half any)

pub returns-else-is_ticket_due-clause-view : goal.returns-else-is_ticket_due-clause-view
returns-else-is_ticket_due-clause-view c =
    let cs : List Command = c.self.inside.commands.items in
    let n = c.args.command in
    let x : Command = c.index.result.now in
    let d : View = view_in c.args.tickets.now (group_view c.self.inside) in
    let inside : n < length cs = omega (arith, (rw (← c.self.view_is) at c.requires.known), as_many cs c.self.inside.props.commands c.self.invariant.windows) in
    let half : (circuit_of n d.present).state ≡ state.HalfOpen c.in-HalfOpen.field-0 c.in-HalfOpen.test = ap (λ k. k.state) (read_at circuit_in cs n x new_circuit inside c.index.ensures) ∙ sym c.state.ensures ∙ c.in-HalfOpen.is in
    let none : list_any (λ t. t.serial == c.in-HalfOpen.test) (filter (is_due d.present) d.present.tickets) ≡ false = sym (rw (← c.self.view_is) at c.is_ticket_due.ensures) ∙ c.if-is_ticket_due.false in
    rw (← c.self.view_is) (test_keeps d n (omega (arith, inside, length-map cs circuit_in)) (test_not_due d.present (circuit_of n d.present) c.in-HalfOpen.field-0 c.in-HalfOpen.test half none))
