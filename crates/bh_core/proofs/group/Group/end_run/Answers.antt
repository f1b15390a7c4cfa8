use Rattle.std.proofs.Common.{◌<◌, ap, arith}
use Rattle.bh_base.specs.Commands.{command_count}
use Rattle.bh_base.specs.Tickets.{is_busy_at}
use Rattle.bh_core.specs.GroupView.{GroupView, group_view, view_in}
use Rattle.bh_core.specs.Stepping.{IsBounded}
use Rattle.bh_core.proofs.Own.{known_found}
use Rattle.bh_core.proofs.group.Group.end_run.Goals as goal
use Rattle.bh_tickets.specs.TicketsView.{group_at}

pub record-requires-clause-known : goal.record-requires-clause-known
record-requires-clause-known c =
    let g = c.self.inside in
    let bounded : IsBounded (view_in c.args.tickets.now (group_view g)) = rw (← c.self.view_is) at c.requires.bounded in
    rw (← c.self.view_is) (known_found (group_at c.args.tickets.now g.place) c.in-Some.slot (is_busy_at c.args.serial) c.get-ticket.result.now g.props bounded.known c.in-Some.ensures.found c.get-ticket.ensures)

pub tell_circuit-requires : goal.tell_circuit-requires
tell_circuit-requires c =
    let g = c.self.inside in
    let bounded : IsBounded (view_in c.args.tickets.now (group_view g)) = rw (← c.self.view_is) at c.requires.bounded in
    let known : c.get-ticket.result.now.command < command_count g.props = known_found (group_at c.args.tickets.now g.place) c.in-Some.slot (is_busy_at c.args.serial) c.get-ticket.result.now g.props bounded.known c.in-Some.ensures.found c.get-ticket.ensures in
    omega (arith, known, ap command_count (c.record.ensures.left c.args.tickets.now).props, ap (λ (x : GroupView). command_count x.props) c.self.view_is)
