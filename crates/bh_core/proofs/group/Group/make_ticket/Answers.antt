use Rattle.std.proofs.Common.{◌≡◌, ◌<◌, List, length, set, refl, sym, ap, subst, ◌∙◌, arith}
use Rattle.bh_base.specs.declared.circuit.Admit.TheVariants as admit
use Rattle.bh_base.specs.Circuit.{Asked, asked, new_circuit}
use Rattle.bh_base.specs.Machine.{circuit_said}
use Rattle.bh_base.specs.Runs.{View}
use Rattle.bh_core.specs.declared.command.Command.{Command}
use Rattle.bh_core.specs.Command.{circuit_in}
use Rattle.bh_core.specs.GroupView.{group_view, view_in}
use Rattle.bh_core.specs.Stepping.{IsBounded, IsDoneBy, asked_with, rolling_now}
use Rattle.bh_core.proofs.Commands.{as_many, read_at}
use Rattle.bh_core.proofs.Joining.{ready_with, asked_done, still_bounded, view_asked}
use Rattle.bh_core.proofs.group.Group.make_ticket.Goals as goal

pub invariant_of-self : goal.invariant_of-self
invariant_of-self c =
    let x : Command = c.index_mut.result.now in
    let value = c.index_mut.ensures.value in
    let inside : c.args.request.now.command < length c.self.inside.commands.items = omega (arith, (rw (← c.self.view_is) at c.requires.known), as_many c.self.inside.commands.items c.self.inside.props.commands c.self.invariant.windows) in
    ready_with c.self.inside c.args.request.now.command x c.admit-said.new.self c.self.invariant inside value c.admit-said.ensures.before

pub invariant_of-self-in-Test : goal.invariant_of-self-in-Test
invariant_of-self-in-Test c =
    let x : Command = c.index_mut.result.now in
    let value = c.index_mut.ensures.value in
    let inside : c.args.request.now.command < length c.self.inside.commands.items = omega (arith, (rw (← c.self.view_is) at c.requires.known), as_many c.self.inside.commands.items c.self.inside.props.commands c.self.invariant.windows) in
    ready_with c.self.inside c.args.request.now.command x c.admit-said.new.self c.self.invariant inside value c.admit-said.ensures.before

pub invariant_of-self-in-Pass : goal.invariant_of-self-in-Pass
invariant_of-self-in-Pass c =
    let x : Command = c.index_mut.result.now in
    let value = c.index_mut.ensures.value in
    let inside : c.args.request.now.command < length c.self.inside.commands.items = omega (arith, (rw (← c.self.view_is) at c.requires.known), as_many c.self.inside.commands.items c.self.inside.props.commands c.self.invariant.windows) in
    ready_with c.self.inside c.args.request.now.command x c.admit-said.new.self c.self.invariant inside value c.admit-said.ensures.before

pub fall_back_from-requires-clause-bounded : goal.fall_back_from-requires-clause-bounded
fall_back_from-requires-clause-bounded c =
    let g = group_view c.self.inside in
    let n = c.args.request.now.command in
    let x : Command = c.index_mut.result.now in
    let y : Command = record { circuit = c.admit-said.new.self; history = x.history } in
    let d : View = view_in c.args.tickets.now g in
    let bounded : IsBounded d = rw (← c.self.view_is) at c.requires.bounded in
    subst IsBounded (sym (view_asked c.args.tickets.now g n x y c.index_mut.ensures.value refl)) (still_bounded n y.circuit d bounded)

pub run_or_queue-requires-clause-bounded : goal.run_or_queue-requires-clause-bounded
run_or_queue-requires-clause-bounded c =
    let g = group_view c.self.inside in
    let n = c.args.request.now.command in
    let x : Command = c.index_mut.result.now in
    let y : Command = record { circuit = c.admit-said.new.self; history = x.history } in
    let d : View = view_in c.args.tickets.now g in
    let bounded : IsBounded d = rw (← c.self.view_is) at c.requires.bounded in
    subst IsBounded (sym (view_asked c.args.tickets.now g n x y c.index_mut.ensures.value refl)) (still_bounded n y.circuit d bounded)

pub run_or_queue-requires-in-Pass-clause-bounded : goal.run_or_queue-requires-in-Pass-clause-bounded
run_or_queue-requires-in-Pass-clause-bounded c =
    let g = group_view c.self.inside in
    let n = c.args.request.now.command in
    let x : Command = c.index_mut.result.now in
    let y : Command = record { circuit = c.admit-said.new.self; history = x.history } in
    let d : View = view_in c.args.tickets.now g in
    let bounded : IsBounded d = rw (← c.self.view_is) at c.requires.bounded in
    subst IsBounded (sym (view_asked c.args.tickets.now g n x y c.index_mut.ensures.value refl)) (still_bounded n y.circuit d bounded)

pub returns-in-Short-clause-done : goal.returns-in-Short-clause-done
returns-in-Short-clause-done c =
    let g = group_view c.self.inside in
    let cs : List Command = g.commands in
    let request = c.args.request.now in
    let n = request.command in
    let x : Command = c.index_mut.result.now in
    let y : Command = record { circuit = c.admit-said.new.self; history = x.history } in
    let d : View = view_in c.args.tickets.now g in
    let inside : n < length cs = omega (arith, (rw (← c.self.view_is) at c.requires.known), as_many cs g.props.commands c.self.invariant.windows) in
    let asks : asked_with n d c.health_asked-health.result ≡ asked_with n d (rolling_now d n).health = rw (← c.self.view_is) at c.health_asked-health.ensures.same in
    let circuit = sym (read_at circuit_in cs n x new_circuit inside c.index_mut.ensures.value) in
    let said = (λ i. asked (c.command.ensures i) g.latest c.health_asked-health.result (c.next_serial.ensures i) (circuit i)) ∙ asks in
    let free : length d.present.tickets < d.present.props.slots = omega (arith, c.if-len-slots.false, c.len.ensures, (rw (← c.self.view_is) at c.slots.ensures)) in
    let new : View = view_in c.fall_back_from.new.tickets c.fall_back_from.new.self in
    let did : IsDoneBy (view_in c.args.tickets.now (record g { commands = set cs n y })) (circuit_said admit.Short request (view_in c.args.tickets.now (record g { commands = set cs n y })).present) c.fall_back_from.new.reply new = c.fall_back_from.ensures.done in
    rw (← c.self.view_is) (asked_done d request (rolling_now d n) admit.Short y.circuit c.fall_back_from.new.reply new free
    (c.in-Short.ensures.says ∙ ap (λ (a : Asked). a.says) said) (c.admit-said.ensures.leaves ∙ ap (λ (a : Asked). a.circuit) said)
    (subst (λ (v : View). IsDoneBy v (circuit_said admit.Short request v.present) c.fall_back_from.new.reply new) (view_asked c.args.tickets.now g n x y c.index_mut.ensures.value refl) did))

pub returns-in-Test-clause-done : goal.returns-in-Test-clause-done
returns-in-Test-clause-done c =
    let g = group_view c.self.inside in
    let cs : List Command = g.commands in
    let request = c.args.request.now in
    let n = request.command in
    let x : Command = c.index_mut.result.now in
    let y : Command = record { circuit = c.admit-said.new.self; history = x.history } in
    let d : View = view_in c.args.tickets.now g in
    let inside : n < length cs = omega (arith, (rw (← c.self.view_is) at c.requires.known), as_many cs g.props.commands c.self.invariant.windows) in
    let asks : asked_with n d c.health_asked-health.result ≡ asked_with n d (rolling_now d n).health = rw (← c.self.view_is) at c.health_asked-health.ensures.same in
    let circuit = sym (read_at circuit_in cs n x new_circuit inside c.index_mut.ensures.value) in
    let said = (λ i. asked (c.command.ensures i) g.latest c.health_asked-health.result (c.next_serial.ensures i) (circuit i)) ∙ asks in
    let free : length d.present.tickets < d.present.props.slots = omega (arith, c.if-len-slots.false, c.len.ensures, (rw (← c.self.view_is) at c.slots.ensures)) in
    let new : View = view_in c.run_or_queue.new.tickets c.run_or_queue.new.self in
    let did : IsDoneBy (view_in c.args.tickets.now (record g { commands = set cs n y })) (circuit_said admit.Test request (view_in c.args.tickets.now (record g { commands = set cs n y })).present) c.run_or_queue.new.reply new = c.run_or_queue.ensures.done in
    rw (← c.self.view_is) (asked_done d request (rolling_now d n) admit.Test y.circuit c.run_or_queue.new.reply new free
    (c.in-Test.ensures.says ∙ ap (λ (a : Asked). a.says) said) (c.admit-said.ensures.leaves ∙ ap (λ (a : Asked). a.circuit) said)
    (subst (λ (v : View). IsDoneBy v (circuit_said admit.Test request v.present) c.run_or_queue.new.reply new) (view_asked c.args.tickets.now g n x y c.index_mut.ensures.value refl) did))

pub returns-in-Pass-clause-done : goal.returns-in-Pass-clause-done
returns-in-Pass-clause-done c =
    let g = group_view c.self.inside in
    let cs : List Command = g.commands in
    let request = c.args.request.now in
    let n = request.command in
    let x : Command = c.index_mut.result.now in
    let y : Command = record { circuit = c.admit-said.new.self; history = x.history } in
    let d : View = view_in c.args.tickets.now g in
    let inside : n < length cs = omega (arith, (rw (← c.self.view_is) at c.requires.known), as_many cs g.props.commands c.self.invariant.windows) in
    let asks : asked_with n d c.health_asked-health.result ≡ asked_with n d (rolling_now d n).health = rw (← c.self.view_is) at c.health_asked-health.ensures.same in
    let circuit = sym (read_at circuit_in cs n x new_circuit inside c.index_mut.ensures.value) in
    let said = (λ i. asked (c.command.ensures i) g.latest c.health_asked-health.result (c.next_serial.ensures i) (circuit i)) ∙ asks in
    let free : length d.present.tickets < d.present.props.slots = omega (arith, c.if-len-slots.false, c.len.ensures, (rw (← c.self.view_is) at c.slots.ensures)) in
    let new : View = view_in c.run_or_queue-in-Pass.new.tickets c.run_or_queue-in-Pass.new.self in
    let did : IsDoneBy (view_in c.args.tickets.now (record g { commands = set cs n y })) (circuit_said admit.Pass request (view_in c.args.tickets.now (record g { commands = set cs n y })).present) c.run_or_queue-in-Pass.new.reply new = c.run_or_queue-in-Pass.ensures.done in
    rw (← c.self.view_is) (asked_done d request (rolling_now d n) admit.Pass y.circuit c.run_or_queue-in-Pass.new.reply new free
    (c.in-Pass.ensures.says ∙ ap (λ (a : Asked). a.says) said) (c.admit-said.ensures.leaves ∙ ap (λ (a : Asked). a.circuit) said)
    (subst (λ (v : View). IsDoneBy v (circuit_said admit.Pass request v.present) c.run_or_queue-in-Pass.new.reply new) (view_asked c.args.tickets.now g n x y c.index_mut.ensures.value refl) did))
