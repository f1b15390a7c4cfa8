use Rattle.std.proofs.Common.{Some, refl, sym, ap, ◌∙◌}
use Rattle.bh_base.specs.declared.props.CommandProps.{CommandProps}
use Rattle.bh_base.specs.Runs.{View}
use Rattle.bh_core.specs.GroupView.{group_view, view_in}
use Rattle.bh_core.proofs.Joining.{joinable_is, nameless_is}
use Rattle.bh_core.proofs.group.Group.find_cached.Goals as goal
use Rattle.bh_tickets.specs.TicketsView.{group_at}

pub returns-in-Some : goal.returns-in-Some
returns-in-Some c =
    let ts = c.args.tickets.now in
    let v : View = view_in ts (group_view c.self.inside) in
    rw (← c.self.view_is, c.in-Some.is) (joinable_is v.present (group_at ts c.self.inside.place) (record c.args.request.now { cache = Some (c.in-Some.context, c.in-Some.key) }) c.find_cached.result refl (sym (ap (λ (p : CommandProps). p.cache_on) c.command.ensures) ∙ c.if-not-command.false) c.find_cached.ensures.found c.find_cached.ensures.none)

pub returns-in-None : goal.returns-in-None
returns-in-None c =
    let v : View = view_in c.args.tickets.now (group_view c.self.inside) in
    rw (← c.self.view_is, c.in-None.is) (nameless_is v.present c.args.request.now.command)
