use Rattle.std.proofs.Common.{◌≡◌, ◌≤◌, ◌*◌}
use Rattle.std.specs.Prelude.{◌&&◌, count_by}
use Rattle.bh_base.specs.Machine.{runs_in_pool}
use Rattle.bh_core.proofs.Pool.{below}
use Rattle.bh_core.proofs.group.Group.pool_busy_count.Given as goal
use Rattle.bh_tickets.specs.TicketsView.{group_at}

-- the runs of the commands before the place are counted
abbrev pub invariant-loop-command : goal.invariant-loop-command
invariant-loop-command l = record {
  counted : l.count ≡ count_by (below l.command (λ t. t.busy && runs_in_pool l.fn.self.props t)) (group_at l.fn.tickets l.fn.self.place).items;
  few : l.count ≤ 4096 * l.command;
}
