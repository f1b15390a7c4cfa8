-- What an operation changes of a ticket.
use Rattle.std.specs.Prelude.{◌+◌, ◌-◌, ◌<◌, ◌^◌, Bool, true, false, ◌&&◌, ◌||◌, nat_le, nat_lt, if◌then◌else◌}
use Rattle.bh_base.specs.declared.ticket.Ticket.{Ticket}
use Rattle.bh_base.specs.declared.ticket.TicketState.{TicketState}
use Rattle.bh_base.specs.declared.ticket.TicketState.TheVariants as ticket
use Rattle.bh_base.specs.declared.reply.Answer.{Answer}
use Rattle.bh_base.specs.declared.reply.Answer.TheVariants as answer
use Rattle.bh_base.specs.declared.reply.Cause.{Cause}
use Rattle.bh_base.specs.declared.reply.Cause.TheVariants as cause
use Rattle.bh_base.specs.Tickets.{in_state, is_of, is_queued, is_running}
use Rattle.bh_tickets.specs.declared.changes.RunEnd.{RunEnd}
use Rattle.bh_tickets.specs.declared.changes.RunEnd.TheVariants as run
use Rattle.bh_tickets.specs.declared.changes.TicketChange.{TicketChange}
use Rattle.bh_tickets.specs.declared.changes.TicketChange.TheVariants as change
use Rattle.bh_tickets.specs.declared.states.DueRule.{DueRule}
use Rattle.bh_base.specs.Machine.{released_by_one}

-- a worker begins with its run
abbrev pub run_started : Ticket → Ticket
run_started t = record t { state = ticket.Running; busy = true }

-- how far a ticket is whose run ended so, in time
abbrev pub state_after : RunEnd → TicketState
state_after (run.Value body) = ticket.Answered (answer.Value body.now)
state_after run.BadRequest = ticket.Answered answer.BadRequest
state_after run.Failure = ticket.NeedsFallback cause.Failure

-- its run ended, and it goes on to the state
abbrev pub run_settled : TicketState → Ticket → Ticket
run_settled state t = record t { state = state; busy = false }

-- its run ended too late
abbrev pub run_stopped : Ticket → Ticket
run_stopped t = record t { busy = false }

-- it is answered, and one holder has collected that
abbrev pub answered : Answer → Ticket → Ticket
answered a t = released_by_one (in_state (ticket.Answered a) t)

-- a holder runs its fallback
abbrev pub fallback_started : Cause → Ticket → Ticket
fallback_started cause t = in_state (ticket.InFallback cause) t

-- one more holder waits for its answer
abbrev pub joined : Ticket → Ticket
joined t = record t { holders = t.holders + 1 }

-- the ticket has timed out by the rule: it is of the command, queued or running, and was submitted so long before the moment
abbrev pub is_due_by : DueRule → Ticket → Bool
is_due_by due t = is_of due.command t && due.timeout_on && (is_queued t || is_running t) && nat_le due.timeout_ms (due.moment - t.submitted)

-- the ticket was submitted so shortly before the moment that it has not timed out
abbrev pub is_young_by : DueRule → Ticket → Bool
is_young_by due t = nat_lt (due.moment - t.submitted) due.timeout_ms

-- as it is once it timed out, where it has
abbrev pub timed_out_by : DueRule → Ticket → Ticket
timed_out_by due t = if is_due_by due t then in_state (ticket.NeedsFallback cause.Timeout) t else t

-- what a change makes of a ticket
abbrev pub changed_by : TicketChange → Ticket → Ticket
changed_by change.StartRun t = run_started t
changed_by (change.EndRun end) t = run_settled (state_after end) t
changed_by change.StopRun t = run_stopped t
changed_by change.ReleaseHolder t = released_by_one t
changed_by (change.AnswerHolder a) t = answered a.now t
changed_by (change.Answer a) t = in_state (ticket.Answered a.now) t
changed_by (change.StartFallback c) t = fallback_started c t
changed_by change.AddHolder t = joined t
changed_by change.TimeOut t = in_state (ticket.NeedsFallback cause.Timeout) t

-- a holder that goes was there, and there are not too many
abbrev pub IsAllowed : TicketChange → Ticket → Type 0
IsAllowed change.ReleaseHolder t = 0 < t.holders
IsAllowed (change.AnswerHolder a) t = 0 < t.holders
IsAllowed change.AddHolder t = t.holders < 2 ^ 64 - 1
IsAllowed _ t = Unit {0}
