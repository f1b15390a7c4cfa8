-- What a reply says that a look at a group asks for beforehand, and whether a group is in use.
use Rattle.std.specs.Prelude.{◌≡◌, ℕ, Bool, true, false, nat_lt, List, Option, Some, None, find, if◌then◌else◌}
use Rattle.std.specs.List.{list_any}
use Rattle.bh_base.specs.Commands.{command_count}
use Rattle.bh_base.specs.Machine.{circuit_of}
use Rattle.bh_base.specs.Runs.{View}
use Rattle.bh_base.specs.Seen.{past_view_of, view_outcome}
use Rattle.bh_base.specs.Tickets.{is_busy_at, is_held_at, is_in_fallback_at}
use Rattle.bh_base.specs.declared.circuit.CircuitState.{CircuitState}
use Rattle.bh_base.specs.declared.event.Counts.{Counts}
use Rattle.bh_base.specs.declared.reply.Metrics.{Metrics}
use Rattle.bh_base.specs.declared.step.Op.{Op}
use Rattle.bh_base.specs.declared.step.Op.TheVariants as op
use Rattle.bh_base.specs.declared.ticket.Ticket.{Ticket}
use Rattle.bh_tickets.specs.TicketsView.{GroupTickets, IsFirstAt, is_used}
use Rattle.bh_base.specs.declared.reply.Reply.{Reply}
use Rattle.bh_base.specs.declared.reply.Reply.TheVariants as reply

-- the group has done all the steps that it may
abbrev pub is_worn_out : Reply → Bool
is_worn_out reply.Worn = true
is_worn_out _ = false

-- a worker got a run
abbrev pub is_assigned : Reply → Bool
is_assigned (reply.Assigned serial command arg) = true
is_assigned _ = false

-- a holder got no answer yet, and nothing to do
abbrev pub is_pending : Reply → Bool
is_pending reply.Pending = true
is_pending _ = false

-- tickets timed out
abbrev pub expires_some : Reply → Bool
expires_some (reply.Expired number) = nat_lt 0 number
expires_some _ = false

-- the metrics that were told
abbrev pub metrics_told : Reply → Option Metrics
metrics_told (reply.Metrics m) = Some m
metrics_told _ = None

-- the metrics of the command at the moment, where the group has it: those that a Read tells, and of a worn group too, since
-- a look is no step
abbrev pub metrics_shown : ℕ → ℕ → View → Option Metrics
metrics_shown command now v =
    if nat_lt command (command_count v.present.props) then metrics_told (view_outcome v (op.Read command) now).reply else None

-- how many events of each kind the command had since the group was registered, where the group has the command
abbrev pub totals_shown : ℕ → View → Option Counts
totals_shown command v =
    if nat_lt command (command_count v.present.props) then Some (past_view_of command v).totals else None

-- the state of the command's circuit breaker, where the group has the command
abbrev pub circuit_shown : ℕ → View → Option CircuitState
circuit_shown command v =
    if nat_lt command (command_count v.present.props) then Some (circuit_of command v.present).state else None

-- the ticket that a step of the operation goes by, where it says a serial: the one whose run ends, whose answer is asked for,
-- or whose fallback ends
abbrev pub ticket_meant : Op → List Ticket → Option Ticket
ticket_meant (op.Finish serial body) ts = find (is_busy_at serial) ts
ticket_meant (op.Fail serial bad) ts = find (is_busy_at serial) ts
ticket_meant (op.Collect serial) ts = find (is_held_at serial) ts
ticket_meant (op.FallbackDone serial end) ts = find (is_in_fallback_at serial) ts
ticket_meant _ ts = None

-- the slot is that of the first ticket that passes, and there is none only where none passes
abbrev pub IsFound : (Ticket → Bool) → GroupTickets → Option ℕ → Type 0
IsFound p tickets None = find p tickets.items ≡ None
IsFound p tickets (Some slot) = IsFirstAt p tickets slot

-- the group cannot be retired: a run has not ended, or someone has still to collect an answer
abbrev pub is_in_use : View → Bool
is_in_use v = list_any is_used v.present.tickets
