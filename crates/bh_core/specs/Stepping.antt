-- A step of one group, taken apart into its begin, the case of its operation, and its end.
use Rattle.std.specs.Prelude.{◌≡◌, ℕ, ◌+◌, ◌-◌, ◌*◌, ◌/◌, ◌<◌, ◌≤◌, ◌^◌, Bool, ◌&&◌, List, [], ◌∷◌, filter, find, length, map, replicate, count_by, set, slice_index_or, Option, Some, None, true, false, if◌then◌else◌}
use Rattle.std.specs.List.{AllByRecursion}
use Rattle.bh_base.specs.declared.event.EventKind.{EventKind}
use Rattle.bh_base.specs.declared.props.CommandProps.{CommandProps}
use Rattle.bh_base.specs.declared.event.EventKind.TheVariants as kind
use Rattle.bh_base.specs.declared.event.Health.{Health}
use Rattle.bh_base.specs.Props.{GroupProps}
use Rattle.bh_base.specs.declared.circuit.End.{End}
use Rattle.bh_base.specs.declared.reply.Reply.{Reply}
use Rattle.bh_base.specs.declared.step.Op.{Op}
use Rattle.bh_base.specs.declared.step.Request.{Request}
use Rattle.bh_base.specs.declared.ticket.TicketState.{TicketState}
use Rattle.bh_base.specs.declared.event.Rolling.{Rolling}
use Rattle.bh_base.specs.Commands.{command_count, each_command, props_of}
use Rattle.bh_base.specs.History.{PastView}
use Rattle.bh_base.specs.Tables.{no_rows}
use Rattle.bh_base.specs.Machine.{Present, CommandEvent, Outcome, cached_as, circuit_of, ended_in, is_due, is_joined_by, outcome, runs_in_pool, test_timed_out, with_circuit, with_ticket}
use Rattle.bh_base.specs.Circuit.{Asked, Circuit, asked, closes, is_test}
use Rattle.bh_tickets.specs.declared.states.DueRule.{DueRule}
use Rattle.bh_tickets.specs.Changes.{is_due_by, timed_out_by}
use Rattle.bh_base.specs.Ranges.{IsQueueLength}
use Rattle.bh_base.specs.Bounds.{HeldBy}
use Rattle.bh_base.specs.Order.{AreKnown}
use Rattle.bh_base.specs.declared.ticket.Ticket.{Ticket}
use Rattle.bh_base.specs.Tickets.{is_kept, is_of}
use Rattle.bh_base.specs.Runs.{View, begun, released}
use Rattle.bh_base.specs.Seen.{no_past_view, past_view_of, past_view_rolling, past_view_with}
use Rattle.bh_tickets.specs.TicketsView.{GroupTickets, IsFirstAt}
use Rattle.bh_core.specs.Counted.{counted}

-- each past at a later moment
abbrev pub pasts_begun : ℕ → ℕ → List PastView → List PastView
pasts_begun latest moment ps = each_command (λ command p. past_view_with latest moment [] false p) ps

-- the rolling counts and health of each command at a moment that is no earlier than the latest
abbrev pub rolling_then : View → ℕ → ℕ → Rolling
rolling_then v command moment = past_view_rolling v.present.latest (past_view_of command v) moment

-- and at the latest moment
abbrev pub rolling_now : View → ℕ → Rolling
rolling_now v command = rolling_then v command v.present.latest

-- a step has begun and recorded nothing: its number and moment are there, and every count is what it was
pub record Begins (old : View) (now : ℕ) (new : View) : Type 0 where
  pub present : new.present ≡ begun now old.present
  pub pasts : new.pasts ≡ pasts_begun old.present.latest new.present.latest old.pasts
  pub rolling : (command : ℕ) → rolling_now new command ≡ rolling_then old command new.present.latest

-- the most that the tables and the totals of a group can grow by in a step: each of its events may stand in all three
abbrev pub step_growth : ℕ
step_growth = 3 * (4096 + 2)

-- in a step that has begun no count can wrap: few events are counted, and there were as many steps as serials and
-- holders; and each ticket is of a command that the group has
pub record IsBounded (v : View) : Type 0 where
  pub events : counted v ≤ 2 ^ 56
  pub serial : v.present.serial ≤ v.present.steps
  pub step : 1 ≤ v.present.steps
  pub held : HeldBy (v.present.steps - 1) v.present.tickets
  pub known : AreKnown v.present.props v.present.tickets

-- between steps: no ticket has more holders than there were steps, each ticket is needed and of a command that the group
-- has, the group has its own command, and no more events are counted than so many steps can have brought
pub record IsSteady (v : View) : Type 0 where
  pub held : HeldBy v.present.steps v.present.tickets
  pub kept : filter is_kept v.present.tickets ≡ v.present.tickets
  pub known : AreKnown v.present.props v.present.tickets
  pub own : 0 < command_count v.present.props
  pub events : counted v ≤ step_growth * v.present.steps

-- the pasts with one more event, at the moment
abbrev pub pasts_with_event : ℕ → CommandEvent → List PastView → List PastView
pasts_with_event moment e ps =
    set ps e.command (past_view_with moment moment (e.kind ∷ []) false (slice_index_or ps e.command no_past_view))

-- with further events, one by one
abbrev pub pasts_with_events : ℕ → List CommandEvent → List PastView → List PastView
pasts_with_events moment [] ps = ps
pasts_with_events moment (e ∷ es) ps = pasts_with_events moment es (pasts_with_event moment e ps)

-- with one more event of the command at the latest moment
abbrev pub with_event : ℕ → EventKind → View → View
with_event command k v = record v { pasts = pasts_with_event v.present.latest (record { command = command; kind = k }) v.pasts }

-- with further events, all at the latest moment
abbrev pub with_events : List CommandEvent → View → View
with_events es v = record v { pasts = pasts_with_events v.present.latest es v.pasts }

-- health starts anew
abbrev pub health_restarted : PastView → PastView
health_restarted p = record p { health = no_rows p.window }

-- health of the command whose circuit closed starts anew
abbrev pub with_closed : Option ℕ → List PastView → List PastView
with_closed None ps = ps
with_closed (Some command) ps = set ps command (health_restarted (slice_index_or ps command no_past_view))

-- with what the operation did, before tickets that nobody needs are gone
abbrev pub done : View → Outcome → View
done v out = record { present = out.present; pasts = with_closed out.closed (pasts_with_events v.present.latest out.events v.pasts) }

-- what the circuit breaker of the command answers to a submit of the next serial, where this is its health
abbrev pub asked_with : ℕ → View → Health → Asked
asked_with command v h = asked (props_of command v.present.props) v.present.latest h v.present.serial (circuit_of command v.present)

-- what the operation does in a step that has begun
abbrev pub outcome_now : View → Op → Outcome
outcome_now v o = outcome o (rolling_now v) v.present

-- the reply and the view are those of the outcome
pub record IsDoneBy (old : View) (out : Outcome) (r : Reply) (new : View) : Type 0 where
  pub reply : r ≡ out.reply
  pub view : new ≡ done old out

-- the reply and what is left are those of the operation
abbrev pub IsDone : View → Op → Reply → View → Type 0
IsDone old o r new = IsDoneBy old (outcome_now old o) r new

-- with a ticket of the next serial for the request, in the state, marked as busy and as the test call as told
abbrev pub view_with_ticket : Request → TicketState → Bool → Bool → View → View
view_with_ticket request state busy test v = record v { present = with_ticket request state busy test v.present }

-- the command, where the end of its ticket closes its circuit
abbrev pub closed_by : ℕ → ℕ → End → View → Option ℕ
closed_by command serial e v = if closes serial e (circuit_of command v.present).state then Some command else None

-- the view once the command's circuit breaker was told how a ticket ended; health starts anew where that closed it
abbrev pub view_ended : ℕ → ℕ → End → View → View
view_ended command serial e v = record {
  present = ended_in v.present command serial e;
  pasts = with_closed (closed_by command serial e v) v.pasts;
}

-- tickets that nobody needs are gone
abbrev pub released_view : View → View
released_view v = record v { present = released v.present }

-- the ranges of properties that the storage of a command rests on
pub record IsCommandServed (props : CommandProps) : Type 0 where
  pub buckets : 0 < props.buckets
  pub width : 0 < props.window_ms / props.buckets

-- the ranges of properties that the storage of a group rests on
pub record IsServed (props : GroupProps) : Type 0 where
  pub slots : props.slots ≤ 4096
  pub core : props.core ≤ 64
  pub queue : IsQueueLength props.max_queue
  pub few_commands : length props.commands ≤ 16
  pub commands : AllByRecursion IsCommandServed props.commands

-- the rule by which tickets of the command are due
abbrev pub due_rule_of : ℕ → Present → DueRule
due_rule_of command g = record { command = command; timeout_on = (props_of command g.props).timeout_on; timeout_ms = (props_of command g.props).timeout_ms; moment = g.latest }

-- a circuit breaker once it was told of its test call, where that is due
abbrev pub told_in : Present → Circuit → Circuit
told_in g c = test_timed_out (find (λ t. is_test t.serial c.state) (filter (is_due g) g.tickets)) g.latest c

-- the view once the command's circuit breaker was told so
abbrev pub view_test_timed_out : ℕ → View → View
view_test_timed_out command v = record v { present = with_circuit command (told_in v.present (circuit_of command v.present)) v.present }

-- and once each was
abbrev pub view_tests_timed_out : View → View
view_tests_timed_out v = record v { present = record v.present { circuits = map (told_in v.present) v.present.circuits } }

-- the tickets of the command that are due
abbrev pub due_of : ℕ → Present → List Ticket
due_of command g = filter (is_due_by (due_rule_of command g)) g.tickets

-- the view once they timed out
abbrev pub view_timed_out : ℕ → View → View
view_timed_out command v = record {
  present = record v.present { tickets = map (timed_out_by (due_rule_of command v.present)) v.present.tickets };
  pasts = pasts_with_events v.present.latest (replicate (length (due_of command v.present)) (record { command = command; kind = kind.Timeout })) v.pasts;
}

-- how many workers of the group's thread pool are at a run of the command
abbrev pub worker_count : ℕ → Present → ℕ
worker_count command g = count_by (λ t. is_of command t && (t.busy && runs_in_pool g.props t)) g.tickets

-- the slot is that of the cached ticket that the request joins, and there is none only where it joins none
abbrev pub IsJoinable : Present → GroupTickets → Request → Option ℕ → Type 0
IsJoinable g tickets request None = cached_as request.command request.cache g ≡ None
IsJoinable g tickets request (Some slot) = ((props_of request.command g.props).cache_on ≡ true) × IsFirstAt (is_joined_by request.command request.cache) tickets slot
