use Rattle.std.proofs.Common.{◌∙◌}
use Rattle.bh_tickets.specs.Changes.{is_due_by}
use Rattle.bh_tickets.specs.TicketsView.{group_at}
use Rattle.bh_tickets.proofs.Tables.{none_passes, passes_is, there_at_serial}
use Rattle.bh_tickets.proofs.tickets.Tickets.is_due.Goals as goal

pub returns-in_default : goal.returns-in_default
returns-in_default c = none_passes c.args.serial (group_at c.args.self.now c.args.group) (is_due_by c.args.due.now) (c.find_serial.ensures.none c.in_default.is (is_due_by c.args.due.now))

pub get-requires-clause-there : goal.get-requires-clause-there
get-requires-clause-there c = there_at_serial c.args.serial (group_at c.args.self.now c.args.group) c.in-Some.slot c.in-Some.ensures.found

pub returns : goal.returns
returns c = c.is_due.ensures ∙ passes_is c.args.serial (group_at c.args.self.now c.args.group) c.in-Some.slot c.in-Some.ensures.found c.get.result.now c.get.ensures (is_due_by c.args.due.now)
