use Rattle.std.proofs.Common.{◌≡◌, sym, ap, ◌∙◌, arith}
use Rattle.bh_base.specs.declared.props.CommandProps.{CommandProps}
use Rattle.bh_base.specs.Commands.{props_of}
use Rattle.std.specs.Prelude.{◌&&◌}
use Rattle.bh_base.specs.Tickets.{is_of}
use Rattle.bh_core.proofs.Pool.{count_few, pool_has, pool_lacks}
use Rattle.bh_core.proofs.group.Group.worker_count.Goals as goal
use Rattle.bh_tickets.specs.TicketsView.{group_at}

pub returns-in-Thread-clause-count : goal.returns-in-Thread-clause-count
returns-in-Thread-clause-count c =
    let g = c.self.inside in
    let own : props_of c.args.command g.props ≡ c.command.result.now = sym c.command.ensures in
    rw (← c.self.view_is) (c.busy_count.ensures ∙ pool_has c.args.command g.props (group_at c.args.tickets.now g.place).items (ap (λ (p : CommandProps). p.strategy) own ∙ c.in-Thread.is))

pub returns-in-Semaphore-clause-count : goal.returns-in-Semaphore-clause-count
returns-in-Semaphore-clause-count c =
    let g = c.self.inside in
    let own : props_of c.args.command g.props ≡ c.command.result.now = sym c.command.ensures in
    rw (← c.self.view_is) (pool_lacks c.args.command g.props (group_at c.args.tickets.now g.place).items (ap (λ (p : CommandProps). p.strategy) own ∙ c.in-Semaphore.is))

pub returns-in-Thread-clause-few : goal.returns-in-Thread-clause-few
returns-in-Thread-clause-few c =
    let g = c.self.inside in
    let some = count_few (λ t. is_of c.args.command t && t.busy) (group_at c.args.tickets.now g.place).items in
    omega (arith, c.busy_count.ensures, some, (rw (← c.self.view_is) at c.requires.has.few), c.self.invariant.served.slots)
