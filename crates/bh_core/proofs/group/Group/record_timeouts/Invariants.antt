use Rattle.std.proofs.Common.{◌≡◌, ◌+◌, ◌-◌, ◌*◌, ◌≤◌}
use Rattle.std.specs.Prelude.{replicate}
use Rattle.bh_core.specs.GroupView.{Leaves, counted_of, view_in}
use Rattle.bh_core.specs.Stepping.{with_events}
use Rattle.bh_core.proofs.Below.{timeout_of}
use Rattle.bh_core.proofs.group.Group.record_timeouts.Given as goal
use Rattle.bh_tickets.specs.TicketsView.{TicketsView}

-- the events that are still to come lead where all of them lead, and those that came are counted
abbrev pub invariant-loop-done : goal.invariant-loop-done
invariant-loop-done l = record {
  view : (ts : TicketsView) → with_events (replicate (l.count - l.done) (timeout_of l.command)) (view_in ts l.self) ≡ with_events (replicate l.count (timeout_of l.command)) (view_in ts l.fn.self);
  counted : counted_of l.self ≤ counted_of l.fn.self + 3 * l.done;
  left : (ts : TicketsView) → Leaves ts l.fn.self ts l.self;
}
