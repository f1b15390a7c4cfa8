use Rattle.std.proofs.Common.{◌≡◌, ◌<◌, List, length, sym, ap, subst, ◌∙◌, arith}
use Rattle.bh_base.specs.declared.props.CommandProps.{CommandProps}
use Rattle.bh_base.specs.Commands.{props_of}
use Rattle.bh_base.specs.declared.event.Rolling.{Rolling}
use Rattle.bh_base.specs.Circuit.{Circuit, asked, new_circuit}
use Rattle.bh_base.specs.Runs.{View}
use Rattle.bh_core.specs.declared.command.Command.{Command}
use Rattle.bh_core.specs.Command.{circuit_in}
use Rattle.bh_core.specs.GroupView.{group_view, view_in}
use Rattle.bh_core.specs.Stepping.{asked_with, rolling_now}
use Rattle.bh_core.proofs.Commands.{as_many, read_at, rolling_at}
use Rattle.bh_core.proofs.group.Group.health_asked.Goals as goal

pub returns-then-takes_snapshot-clause-same : goal.returns-then-takes_snapshot-clause-same
returns-then-takes_snapshot-clause-same c =
    let g = c.self.inside in
    let cs : List Command = g.commands.items in
    let n = c.args.command in
    let v : View = view_in c.args.tickets.now (group_view g) in
    let inside : n < length cs = omega (arith, (rw (← c.self.view_is) at c.requires.known), as_many cs g.props.commands c.self.invariant.windows) in
    rw (← c.self.view_is) (ap (asked_with n v) c.health.ensures ∙ ap (λ (r : Rolling). asked_with n v r.health) (rolling_at g.latest cs n c.index-own.result.now inside c.index-own.ensures c.self.invariant.commands))

pub returns-clause-same : goal.returns-clause-same
returns-clause-same c =
    let g = c.self.inside in
    let cs : List Command = g.commands.items in
    let n = c.args.command in
    let v : View = view_in c.args.tickets.now (group_view g) in
    let inside : n < length cs = omega (arith, (rw (← c.self.view_is) at c.requires.known), as_many cs g.props.commands c.self.invariant.windows) in
    let circuit = read_at circuit_in cs n c.index-own.result.now new_circuit inside c.index-own.ensures in
    let any = rolling_now v n in
    let x : Command = c.index-own.result.now in
    rw (← c.self.view_is) (
    ap (λ (k : Circuit). asked (props_of n g.props) g.latest (record { errors = 0; total = 0 }) v.present.serial k) circuit
    ∙ subst (λ (p : CommandProps). asked p g.latest (record { errors = 0; total = 0 }) v.present.serial x.circuit ≡ asked p g.latest any.health v.present.serial x.circuit) c.command.ensures
    (c.takes_snapshot.ensures.unneeded c.if-takes_snapshot.false v.present.serial (record { errors = 0; total = 0 }) any.health)
    ∙ ap (λ (k : Circuit). asked (props_of n g.props) g.latest any.health v.present.serial k) (sym circuit))
