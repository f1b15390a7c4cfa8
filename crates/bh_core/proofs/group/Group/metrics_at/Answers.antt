use Rattle.std.proofs.Common.{◌≡◌, ◌<◌, ◌≤◌, ◌-◌, List, length, sym, ap, ◌∙◌, arith}
use Rattle.bh_base.specs.declared.event.Rolling.{Rolling}
use Rattle.bh_base.specs.declared.reply.Reply.TheVariants as reply
use Rattle.bh_base.specs.Circuit.{Circuit, new_circuit}
use Rattle.bh_base.specs.History.{percent}
use Rattle.bh_base.specs.Runs.{View}
use Rattle.bh_core.specs.declared.command.Command.{Command}
use Rattle.bh_core.specs.Command.{IsCommandUpTo, circuit_in}
use Rattle.bh_core.specs.GroupView.{group_view, view_in}
use Rattle.bh_core.specs.Stepping.{rolling_then}
use Rattle.bh_core.proofs.Commands.{all_at, as_many, command_later, read_at, rolling_later}
use Rattle.bh_core.proofs.group.Group.metrics_at.Goals as goal

pub rolling-rolling-requires : goal.rolling-rolling-requires
rolling-rolling-requires c =
    let g = c.self.inside in
    let cs : List Command = g.commands.items in
    let n = c.args.command in
    let x : Command = c.index-own.result.now in
    let inside : n < length cs = omega (arith, (rw (← c.self.view_is) at c.requires.known), as_many cs g.props.commands c.self.invariant.windows) in
    let later : g.latest ≤ c.args.moment = rw (← c.self.view_is) at c.requires.later in
    (command_later g.latest c.args.moment x later (all_at (IsCommandUpTo g.latest) cs n x inside c.index-own.ensures c.self.invariant.commands)).history

pub returns : goal.returns
returns c =
    let g = c.self.inside in
    let cs : List Command = g.commands.items in
    let n = c.args.command in
    let x : Command = c.index-own.result.now in
    let v : View = view_in c.args.tickets.now (group_view g) in
    let inside : n < length cs = omega (arith, (rw (← c.self.view_is) at c.requires.known), as_many cs g.props.commands c.self.invariant.windows) in
    let later : g.latest ≤ c.args.moment = rw (← c.self.view_is) at c.requires.later in
    let rolling : c.rolling-rolling.result ≡ rolling_then v n c.args.moment = c.rolling-rolling.ensures ∙ rolling_later g.latest c.args.moment cs n x inside c.index-own.ensures later c.self.invariant.commands in
    let circuit = c.state.ensures ∙ sym (ap (λ (k : Circuit). k.state) (read_at circuit_in cs n x new_circuit inside c.index-own.ensures)) in
    let percents = c.percent.ensures.exact ∙ ap (λ (r : Rolling). percent r.health) rolling in
    let slots : c.slots.result ≡ g.props.slots = rw (← c.self.view_is) at c.slots.ensures in
    let free : c.slots.result - c.len.result ≡ g.props.slots - length v.present.tickets = λ i. slots i - c.len.ensures i in
    rw (← c.self.view_is)
    (λ i. reply.Metrics (record {
      circuit = circuit i;
      counts = (rolling i).counts;
      errors = (rolling i).health.errors;
      total = (rolling i).health.total;
      percent = percents i;
      busy = c.busy_count.ensures i;
      queued = c.queued_count.ensures i;
      free = free i;
    }))
