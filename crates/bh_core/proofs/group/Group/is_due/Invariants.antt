use Rattle.std.proofs.Common.{◌≡◌, false, filter, true}
use Rattle.std.specs.List.{list_any}
use Rattle.bh_base.specs.Runs.{begun}
use Rattle.bh_core.specs.GroupView.{view_in}
use Rattle.bh_core.proofs.Below.{is_due_below}
use Rattle.bh_core.proofs.group.Group.is_due.Given as goal
use Rattle.bh_tickets.specs.TicketsView.{group_at}

-- none is due at the step's moment among those of the commands before the place
abbrev pub invariant-loop-command : goal.invariant-loop-command
invariant-loop-command l = list_any (λ t. true) (filter (is_due_below l.command (begun l.fn.now (view_in l.fn.tickets l.fn.self).present)) (group_at l.fn.tickets l.fn.self.place).items) ≡ false
