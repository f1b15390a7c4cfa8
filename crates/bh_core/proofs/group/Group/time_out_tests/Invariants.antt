use Rattle.std.proofs.Common.{◌≡◌}
use Rattle.bh_core.specs.GroupView.{Leaves, view_in}
use Rattle.bh_core.proofs.Timeouts.{told_before}
use Rattle.bh_core.proofs.group.Group.time_out_tests.Given as goal
use Rattle.bh_tickets.specs.TicketsView.{TicketsView}

-- the circuit breakers of the commands before the place were told
abbrev pub invariant-loop-command : goal.invariant-loop-command
invariant-loop-command l = record {
  view : view_in l.fn.tickets l.self ≡ told_before l.command (view_in l.fn.tickets l.fn.self);
  left : (ts : TicketsView) → Leaves ts l.fn.self ts l.self;
}
