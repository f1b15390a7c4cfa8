use Rattle.std.proofs.Common.{◌≡◌, ◌+◌, ◌-◌, ◌<◌, ◌≤◌, List, map, ap, subst, arith}
use Rattle.bh_base.specs.Bounds.{HeldBy}
use Rattle.bh_core.specs.declared.command.Command.{Command}
use Rattle.bh_core.specs.Command.{past_in}
use Rattle.bh_core.specs.Counted.{counted_pasts}
use Rattle.bh_core.specs.GroupView.{HasTickets, group_view, view_in}
use Rattle.bh_core.specs.Stepping.{IsSteady, pasts_begun}
use Rattle.bh_core.proofs.Commands.{have_buckets, moved_pasts, moved_rollings}
use Rattle.bh_core.proofs.Counting.{pasts-moved}
use Rattle.bh_core.proofs.group.Group.begin.Goals as goal
use Rattle.bh_tickets.specs.TicketsView.{group_at}

pub returns-clause-begins : goal.returns-clause-begins
returns-clause-begins c = λ ts.
    let g = c.self.inside in
    let m = c.max-self-inside.result in
    let later : g.latest ≤ m = omega (arith, c.max-self-inside.ensures) in
    let before = view_in ts (group_view g) in
    rw (← c.self.view_is) (record {
      present = λ i. record before.present { steps = g.steps + 1; latest = c.max-self-inside.ensures i };
      pasts = moved_pasts g.latest m 0 g.commands.items later c.self.invariant.commands;
      rolling = λ command. moved_rollings g.latest m g.commands.items command later c.self.invariant.commands;
    })

pub returns-clause-bounded : goal.returns-clause-bounded
returns-clause-bounded c = λ ts has kept.
    let g = c.self.inside in
    let cs : List Command = g.commands.items in
    let m = c.max-self-inside.result in
    let later : g.latest ≤ m = omega (arith, c.max-self-inside.ensures) in
    let steady : IsSteady (view_in ts (group_view g)) = rw (← c.self.view_is) at kept in
    let own : HasTickets ts (group_view g) = rw (← c.self.view_is) at has in
    let fresh : g.steps < g.limit = rw (← c.self.view_is) at c.requires in
    let moved : counted_pasts m (map (past_in m) cs) ≡ counted_pasts m (pasts_begun g.latest m (map (past_in g.latest) cs)) = ap (counted_pasts m) (moved_pasts g.latest m 0 cs later c.self.invariant.commands) in
    let fewer = pasts-moved g.latest m 0 (map (past_in g.latest) cs) (have_buckets g.latest cs c.self.invariant.commands) in
    record {
      events = omega (arith, moved, fewer, steady.events, fresh, c.self.invariant.limit);
      serial = own.serial;
      step = omega arith;
      known = steady.known;
      held = (let number : g.steps ≡ g.steps + 1 - 1 = omega arith in subst (λ m. HeldBy m (group_at ts g.place).items) number steady.held);
    }
