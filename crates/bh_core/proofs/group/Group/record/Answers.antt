use Rattle.std.proofs.Common.{◌≡◌, ◌<◌, ◌^◌, List, length, map, set, refl, ap, subst, ◌∙◌, arith}
use Rattle.bh_core.specs.declared.command.Command.{Command}
use Rattle.bh_core.specs.Command.{IsCommandUpTo, past_in, window_in}
use Rattle.bh_core.specs.declared.history.History.{History}
use Rattle.bh_core.specs.Counted.{counted_pasts}
use Rattle.bh_core.specs.GroupView.{GroupView, counted_of, group_view, view_in}
use Rattle.bh_core.specs.Stepping.{with_event}
use Rattle.bh_core.proofs.Commands.{all_at, all_set, as_many, counted_at, event_seen, have_buckets, recorded_up_to, same_at}
use Rattle.bh_core.proofs.Joining.{view_with_event}
use Rattle.bh_core.proofs.Counting.{counted-event}
use Rattle.bh_core.proofs.group.Group.record.Goals as goal

pub record-requires-clause-few : goal.record-requires-clause-few
record-requires-clause-few c =
    let g = c.self.inside in
    let cs : List Command = g.commands.items in
    let inside : c.args.command < length cs = omega (arith, (rw (← c.self.view_is) at c.requires.known), as_many cs g.props.commands c.self.invariant.windows) in
    let few : counted_of (group_view g) < 2 ^ 60 = rw (← c.self.view_is) at c.requires.few in
    omega (arith, few, counted_at g.latest cs c.args.command c.index_mut.result.now inside c.index_mut.ensures.value)

pub invariant_of-self : goal.invariant_of-self
invariant_of-self c =
    let g = c.self.inside in
    let cs : List Command = g.commands.items in
    let x : Command = c.index_mut.result.now in
    let y : Command = record { circuit = x.circuit; history = c.record.new.self } in
    let value = c.index_mut.ensures.value in
    let inside : c.args.command < length cs = omega (arith, (rw (← c.self.view_is) at c.requires.known), as_many cs g.props.commands c.self.invariant.windows) in
    record {
      served = c.self.invariant.served;
      windows = same_at window_in cs c.args.command x y value (ap (λ (h : History). h.reported.window) c.record.ensures) ∙ c.self.invariant.windows;
      commands = all_set (IsCommandUpTo g.latest) cs c.args.command y c.self.invariant.commands
          (recorded_up_to g.latest c.args.kind x y refl c.record.ensures (all_at (IsCommandUpTo g.latest) cs c.args.command x inside value c.self.invariant.commands));
      limit = c.self.invariant.limit;
      steps = c.self.invariant.steps;
    }

pub returns-clause-view : goal.returns-clause-view
returns-clause-view c = λ ts.
    let g = c.self.inside in
    let cs : List Command = g.commands.items in
    let x : Command = c.index_mut.result.now in
    let y : Command = record { circuit = x.circuit; history = c.record.new.self } in
    let inside : c.args.command < length cs = omega (arith, (rw (← c.self.view_is) at c.requires.known), as_many cs g.props.commands c.self.invariant.windows) in
    subst (λ (v : GroupView). view_in ts (record (group_view g) { commands = set cs c.args.command y }) ≡ with_event c.args.command c.args.kind (view_in ts v)) c.self.view_is
    (view_with_event ts (group_view g) c.args.command x y c.args.kind inside c.index_mut.ensures.value c.self.invariant.commands refl c.record.ensures)

pub returns-clause-counted : goal.returns-clause-counted
returns-clause-counted c =
    let g = c.self.inside in
    let cs : List Command = g.commands.items in
    let x : Command = c.index_mut.result.now in
    let y : Command = record { circuit = x.circuit; history = c.record.new.self } in
    let inside : c.args.command < length cs = omega (arith, (rw (← c.self.view_is) at c.requires.known), as_many cs g.props.commands c.self.invariant.windows) in
    let recorded = ap (counted_pasts g.latest) (event_seen g.latest cs c.args.command x y c.args.kind inside c.index_mut.ensures.value c.self.invariant.commands c.record.ensures) in
    rw (← c.self.view_is) (omega (arith, recorded, counted-event g.latest (record { command = c.args.command; kind = c.args.kind }) (map (past_in g.latest) cs) (have_buckets g.latest cs c.self.invariant.commands)))
