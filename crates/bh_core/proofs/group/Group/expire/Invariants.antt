use Rattle.std.proofs.Common.{◌≡◌, ◌≤◌, ◌+◌, ◌*◌, length, filter}
use Rattle.bh_core.specs.GroupView.{Leaves, counted_of, view_in}
use Rattle.bh_core.specs.Stepping.{view_tests_timed_out}
use Rattle.bh_core.proofs.Below.{is_due_below, view_timed_below}
use Rattle.bh_core.proofs.group.Group.expire.Given as goal

-- the due tickets of the commands before the place timed out, and were counted
abbrev pub invariant-loop-command : goal.invariant-loop-command
invariant-loop-command l = record {
  view : view_in l.tickets l.self ≡ view_timed_below l.command (view_tests_timed_out (view_in l.fn.tickets l.fn.self));
  count : l.count ≡ length (filter (is_due_below l.command (view_tests_timed_out (view_in l.fn.tickets l.fn.self)).present) (view_in l.fn.tickets l.fn.self).present.tickets);
  few : l.count ≤ 4096 * l.command;
  counted : counted_of l.self ≤ counted_of l.fn.self + 3 * l.count;
  left : Leaves l.fn.tickets l.fn.self l.tickets l.self;
}
