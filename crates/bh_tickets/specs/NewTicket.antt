-- What a new ticket is.
use Rattle.std.specs.Prelude.{ℕ, Bool, true, false}
use Rattle.bh_base.specs.declared.ticket.Ticket.{Ticket}
use Rattle.bh_base.specs.declared.ticket.TicketState.{TicketState}
use Rattle.bh_base.specs.declared.ticket.TicketState.TheVariants as ticket
use Rattle.bh_tickets.specs.declared.new_ticket.NewTicket.{NewTicket}
use Rattle.bh_tickets.specs.declared.new_ticket.TicketStart.{TicketStart}
use Rattle.bh_tickets.specs.declared.new_ticket.TicketStart.TheVariants as start

-- how far a ticket is that begins there
abbrev pub state_from : TicketStart → TicketState
state_from start.Queued = ticket.Queued
state_from start.Running = ticket.Running
state_from (start.NeedsFallback cause) = ticket.NeedsFallback cause

-- whether a worker or a permit is at a ticket that begins there
abbrev pub is_busy_from : TicketStart → Bool
is_busy_from start.Queued = false
is_busy_from start.Running = true
is_busy_from (start.NeedsFallback cause) = false

-- the ticket of the serial
abbrev pub ticket_of : NewTicket → ℕ → Ticket
ticket_of new serial = record {
  serial = serial;
  command = new.request.now.command;
  arg = new.request.now.arg;
  cache = new.request.now.cache;
  submitted = new.submitted;
  state = state_from new.start;
  busy = is_busy_from new.start;
  holders = 1;
  cached = new.cached;
  test = new.test;
}
