use Rattle.std.proofs.Common.{◌∙◌}
use Rattle.bh_base.specs.Tickets.{is_queued}
use Rattle.bh_tickets.specs.TicketsView.{group_at}
use Rattle.bh_tickets.proofs.Exists.{any_first}
use Rattle.bh_tickets.proofs.tickets.Tickets.any_queued.Goals as goal

pub returns : goal.returns
returns c = c.is_some.ensures ∙ any_first is_queued (group_at c.args.self.now c.args.group) c.first_queued.result c.first_queued.ensures.found c.first_queued.ensures.none
