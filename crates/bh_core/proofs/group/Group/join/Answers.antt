use Rattle.std.proofs.Common.{◌-◌, arith}
use Rattle.bh_base.specs.Machine.{is_joined_by}
use Rattle.bh_core.specs.GroupView.{group_view, view_in}
use Rattle.bh_core.specs.Stepping.{IsBounded}
use Rattle.bh_core.proofs.Own.{held_found}
use Rattle.bh_core.proofs.group.Group.join.Goals as goal
use Rattle.bh_tickets.specs.TicketsView.{IsFirstAt, group_at}

pub add_holder-requires-clause-few : goal.add_holder-requires-clause-few
add_holder-requires-clause-few c = λ t here.
    let g = c.self.inside in
    let own = group_at c.args.tickets.now g.place in
    let bounded : IsBounded (view_in c.args.tickets.now (group_view g)) = rw (← c.self.view_is) at c.requires.bounded in
    let first : IsFirstAt (is_joined_by c.args.request.now.command c.args.request.now.cache) own c.args.slot = (rw (← c.self.view_is) at c.requires.found).1 in
    omega (arith, held_found own c.args.slot (is_joined_by c.args.request.now.command c.args.request.now.cache) t (g.steps - 1) bounded.held first here, c.self.invariant.steps, c.self.invariant.limit)
