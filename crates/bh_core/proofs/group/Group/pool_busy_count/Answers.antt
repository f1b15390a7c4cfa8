use Rattle.std.proofs.Common.{◌≡◌, List, ap, ◌∙◌, arith}
use Rattle.std.specs.Prelude.{◌&&◌, count_by}
use Rattle.bh_base.specs.declared.ticket.Ticket.{Ticket}
use Rattle.bh_base.specs.Commands.{command_count}
use Rattle.bh_base.specs.Machine.{runs_in_pool}
use Rattle.bh_core.proofs.Pool.{below, count_below_all, count_below_next, count_below_none}
use Rattle.bh_core.proofs.group.Group.pool_busy_count.Goals as goal
use Rattle.bh_tickets.specs.TicketsView.{group_at}

pub loop-command-init : goal.loop-command-init
loop-command-init c = record {
  counted = count_below_none (λ t. t.busy && runs_in_pool c.args.self.now.props t) (group_at c.args.tickets.now c.args.self.now.place).items;
  few = omega arith;
}

pub loop-command-preserved : goal.loop-command-preserved
loop-command-preserved c =
    let ts : List Ticket = (group_at c.args.tickets.now c.args.self.now.place).items in
    record {
      counted = omega (arith, c.loop-command.invariant.counted, c.worker_count-count.ensures.count, count_below_next c.loop-command.command (λ t. t.busy && runs_in_pool c.args.self.now.props t) ts);
      few = omega (arith, c.loop-command.invariant.few, c.worker_count-count.ensures.few);
    }

pub returns : goal.returns
returns c =
    let ts : List Ticket = (group_at c.args.tickets.now c.args.self.now.place).items in
    let last : c.loop-command.command ≡ command_count c.args.self.now.props = omega (arith, c.loop-command.auto.command-end, c.loop-command-test.false, c.command_count-command-end.ensures.number) in
    c.loop-command.invariant.counted ∙ ap (λ n. count_by (below n (λ t. t.busy && runs_in_pool c.args.self.now.props t)) ts) last
    ∙ count_below_all (λ t. t.busy && runs_in_pool c.args.self.now.props t) c.args.self.now.props ts c.requires.known
