use Rattle.std.proofs.Common.{rules}
use Rattle.bh_tickets.proofs.Finds.{is_held}
use Rattle.bh_tickets.specs.TicketsView.{group_at}
use Rattle.bh_tickets.proofs.Tables.{fails_none, passes_first, there_at_serial}
use Rattle.bh_tickets.proofs.tickets.Tickets.find_held.Goals as goal

pub get-requires-clause-there : goal.get-requires-clause-there
get-requires-clause-there c = there_at_serial c.args.serial (group_at c.args.self.now c.args.group) c.in_ok-slot.slot c.in_ok-slot.ensures.found

pub returns-in_err-slot-clause-none : goal.returns-in_err-slot-clause-none
returns-in_err-slot-clause-none c = λ none. c.find_serial.ensures.none c.in_err-slot.was is_held

pub returns-then-not-is_held-clause-none : goal.returns-then-not-is_held-clause-none
returns-then-not-is_held-clause-none c = λ none. fails_none c.args.serial (group_at c.args.self.now c.args.group) c.in_ok-slot.slot c.in_ok-slot.ensures.found c.get.result.now c.get.ensures is_held (search rules)

pub returns-clause-found : goal.returns-clause-found
returns-clause-found c = passes_first c.args.serial (group_at c.args.self.now c.args.group) c.in_ok-slot.slot c.in_ok-slot.ensures.found c.get.result.now c.get.ensures is_held (search rules)
