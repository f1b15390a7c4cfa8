use Rattle.bh_base.specs.Tickets.{is_in_fallback_at}
use Rattle.bh_core.specs.GroupView.{group_view, view_in}
use Rattle.bh_core.specs.Stepping.{IsBounded}
use Rattle.bh_core.proofs.Own.{known_found}
use Rattle.bh_core.proofs.group.Group.fallback_done.Goals as goal
use Rattle.bh_tickets.specs.TicketsView.{group_at}

pub end_fallback-requires-clause-known : goal.end_fallback-requires-clause-known
end_fallback-requires-clause-known c =
    let g = c.self.inside in
    let bounded : IsBounded (view_in c.args.tickets.now (group_view g)) = rw (← c.self.view_is) at c.requires.bounded in
    rw (← c.self.view_is) (known_found (group_at c.args.tickets.now g.place) c.in-Some.slot (is_in_fallback_at c.args.serial) c.get-ticket.result.now g.props bounded.known c.in-Some.ensures.found c.get-ticket.ensures)
