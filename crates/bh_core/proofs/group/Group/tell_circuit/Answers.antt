use Rattle.std.proofs.Common.{◌≡◌, ◌<◌, List, length, true, false, map, Some, None, refl, sym, ap, subst, ◌∙◌, arith}
use Rattle.std.specs.Prelude.{if◌then◌else◌}
use Rattle.bh_base.specs.Circuit.{Circuit, closes, ended, new_circuit}
use Rattle.bh_base.specs.Runs.{View}
use Rattle.bh_core.specs.declared.command.Command.{Command}
use Rattle.bh_core.specs.declared.history.History.{History}
use Rattle.bh_core.specs.History.{IsUpTo, history_restarted}
use Rattle.bh_core.specs.Command.{IsCommandUpTo, circuit_in, past_in, window_in}
use Rattle.bh_core.specs.GroupView.{group_view, view_in}
use Rattle.bh_core.specs.Stepping.{with_closed}
use Rattle.bh_core.proofs.Commands.{all_at, all_set, as_many, circuit_seen, read_at, restart_seen, same_at}
use Rattle.bh_core.proofs.group.Group.tell_circuit.Goals as goal

pub invariant_of-self : goal.invariant_of-self
invariant_of-self c =
    let g = c.self.inside in
    let cs : List Command = g.commands.items in
    let n = c.args.command in
    let x : Command = c.index_mut-own.result.now in
    let y : Command = record { circuit = c.ended.new.self; history = c.restart_health.new.self } in
    let value = c.index_mut-own.ensures.value in
    let inside : n < length cs = omega (arith, (rw (← c.self.view_is) at c.requires), as_many cs g.props.commands c.self.invariant.windows) in
    let ok : IsCommandUpTo g.latest x = all_at (IsCommandUpTo g.latest) cs n x inside value c.self.invariant.commands in
    let restarted : IsUpTo g.latest (history_restarted x.history) = record { some = ok.history.some; window = ok.history.window; reported = ok.history.reported; health = omega arith } in
    record {
      served = c.self.invariant.served;
      windows = same_at window_in cs n x y value (ap (λ (h : History). h.reported.window) c.restart_health.ensures) ∙ c.self.invariant.windows;
      commands = all_set (IsCommandUpTo g.latest) cs n y c.self.invariant.commands (record {
        circuit = c.ended.ensures.before ok.circuit;
        history = subst (IsUpTo g.latest) (sym c.restart_health.ensures) restarted;
      });
      limit = c.self.invariant.limit;
      steps = c.self.invariant.steps;
    }

pub invariant_of-self-2 : goal.invariant_of-self-2
invariant_of-self-2 c =
    let g = c.self.inside in
    let cs : List Command = g.commands.items in
    let n = c.args.command in
    let x : Command = c.index_mut-own.result.now in
    let y : Command = record { circuit = c.ended.new.self; history = x.history } in
    let value = c.index_mut-own.ensures.value in
    let inside : n < length cs = omega (arith, (rw (← c.self.view_is) at c.requires), as_many cs g.props.commands c.self.invariant.windows) in
    let ok : IsCommandUpTo g.latest x = all_at (IsCommandUpTo g.latest) cs n x inside value c.self.invariant.commands in
    record {
      served = c.self.invariant.served;
      windows = same_at window_in cs n x y value refl ∙ c.self.invariant.windows;
      commands = all_set (IsCommandUpTo g.latest) cs n y c.self.invariant.commands (record { circuit = c.ended.ensures.before ok.circuit; history = ok.history });
      limit = c.self.invariant.limit;
      steps = c.self.invariant.steps;
    }

pub returns-then-ended-clause-view : goal.returns-then-ended-clause-view
returns-then-ended-clause-view c = λ ts.
    let g = c.self.inside in
    let cs : List Command = g.commands.items in
    let n = c.args.command in
    let x : Command = c.index_mut-own.result.now in
    let y : Command = record { circuit = c.ended.new.self; history = c.restart_health.new.self } in
    let value = c.index_mut-own.ensures.value in
    let inside : n < length cs = omega (arith, (rw (← c.self.view_is) at c.requires), as_many cs g.props.commands c.self.invariant.windows) in
    let before : View = view_in ts (group_view g) in
    let closed : closes c.args.serial c.args.end x.circuit.state ≡ true = sym c.ended.ensures.closed ∙ c.if-ended.true in
    let circuit = read_at circuit_in cs n x new_circuit inside value in
    rw (← c.self.view_is) (λ i. record {
      present = record before.present { circuits = circuit_seen cs n x y (ended c.args.serial c.args.end g.latest) inside value c.ended.ensures.leaves i };
      pasts = (restart_seen g.latest cs n x y inside value c.self.invariant.commands c.restart_health.ensures
          ∙ sym (ap (λ b. with_closed (if b then Some n else None) (map (past_in g.latest) cs)) (ap (λ (k : Circuit). closes c.args.serial c.args.end k.state) circuit ∙ closed))) i;
    })

pub returns-clause-view : goal.returns-clause-view
returns-clause-view c = λ ts.
    let g = c.self.inside in
    let cs : List Command = g.commands.items in
    let n = c.args.command in
    let x : Command = c.index_mut-own.result.now in
    let y : Command = record { circuit = c.ended.new.self; history = x.history } in
    let value = c.index_mut-own.ensures.value in
    let inside : n < length cs = omega (arith, (rw (← c.self.view_is) at c.requires), as_many cs g.props.commands c.self.invariant.windows) in
    let before : View = view_in ts (group_view g) in
    let stays : closes c.args.serial c.args.end x.circuit.state ≡ false = sym c.ended.ensures.closed ∙ c.if-ended.false in
    let circuit = read_at circuit_in cs n x new_circuit inside value in
    rw (← c.self.view_is) (λ i. record {
      present = record before.present { circuits = circuit_seen cs n x y (ended c.args.serial c.args.end g.latest) inside value c.ended.ensures.leaves i };
      pasts = (same_at (past_in g.latest) cs n x y value refl
          ∙ sym (ap (λ b. with_closed (if b then Some n else None) (map (past_in g.latest) cs)) (ap (λ (k : Circuit). closes c.args.serial c.args.end k.state) circuit ∙ stays))) i;
    })
