-- One group alone: what each step answers, and what it leaves.
use Rattle.std.specs.Prelude.{ℕ, ◌+◌, ◌-◌, Bool, true, false, ◌&&◌, ◌||◌, not, ◌==◌, nat_lt, nat_le, min, List, [], ◌∷◌, ◌++◌, map, filter, find, count_by, length, set, slice_index_or, Option, Some, None, is_some, if◌then◌else◌}
use Rattle.bh_base.specs.Props.{GroupProps}
use Rattle.bh_base.specs.declared.props.Strategy.{Strategy}
use Rattle.bh_base.specs.declared.props.Strategy.TheVariants as strategy
use Rattle.bh_base.specs.declared.ticket.Ticket.{Ticket}
use Rattle.bh_base.specs.declared.ticket.TicketState.{TicketState}
use Rattle.bh_base.specs.declared.ticket.TicketState.TheVariants as ticket
use Rattle.bh_base.specs.declared.step.Request.{Request}
use Rattle.bh_base.specs.declared.step.Op.{Op}
use Rattle.bh_base.specs.declared.step.Op.TheVariants as op
use Rattle.bh_base.specs.declared.reply.Reply.{Reply}
use Rattle.bh_base.specs.declared.reply.Reply.TheVariants as reply
use Rattle.bh_base.specs.declared.reply.Answer.{Answer}
use Rattle.bh_base.specs.declared.reply.Answer.TheVariants as answer
use Rattle.bh_base.specs.declared.reply.Cause.{Cause}
use Rattle.bh_base.specs.declared.reply.Cause.TheVariants as cause
use Rattle.bh_base.specs.declared.step.FallbackEnd.{FallbackEnd}
use Rattle.bh_base.specs.declared.step.FallbackEnd.TheVariants as fallback
use Rattle.bh_base.specs.declared.reply.FallbackFault.{FallbackFault}
use Rattle.bh_base.specs.declared.reply.FallbackFault.TheVariants as fault
use Rattle.bh_base.specs.declared.circuit.Admit.{Admit}
use Rattle.bh_base.specs.declared.circuit.Admit.TheVariants as admit
use Rattle.bh_base.specs.declared.circuit.End.{End}
use Rattle.bh_base.specs.declared.circuit.End.TheVariants as end
use Rattle.bh_base.specs.declared.event.EventKind.{EventKind}
use Rattle.bh_base.specs.declared.event.EventKind.TheVariants as kind
use Rattle.bh_base.specs.declared.event.Rolling.{Rolling}
use Rattle.bh_base.specs.declared.props.Tuning.{Tuning}
use Rattle.bh_base.specs.Commands.{props_of}
use Rattle.bh_base.specs.Tunings.{group_tuned, is_within}
use Rattle.bh_base.specs.History.{percent}
use Rattle.bh_base.specs.Circuit.{Circuit, new_circuit, Asked, asked, ended, closes, is_test}
use Rattle.bh_base.specs.Tickets.{is_of, is_queued, is_running, is_in_fallback, is_busy_at, is_held_at, is_in_fallback_at, is_cached_as, is_cached_in, changed_first, in_state}

-- all that a group has beside the past of its commands
pub record Present : Type 0 where
  pub props : GroupProps
  pub limit : ℕ
  pub steps : ℕ
  pub latest : ℕ
  -- the next ticket's
  pub serial : ℕ
  -- by rising serial
  pub tickets : List Ticket
  -- of each command
  pub circuits : List Circuit

-- an event of a step: the command that it is of, and its kind
pub record CommandEvent : Type 0 where
  pub command : ℕ
  pub kind : EventKind

-- what a step does: its reply, what it leaves, its events, and the command whose circuit closed, if one did
pub record Outcome : Type 0 where
  pub reply : Reply
  pub present : Present
  pub events : List CommandEvent
  pub closed : Option ℕ

-- the outcome of a case that closes no circuit
abbrev pub answers : Reply → List CommandEvent → Present → Outcome
answers r events g = record { reply = r; present = g; events = events; closed = None }

-- events of the kinds, all of one command
abbrev pub events_of : ℕ → List EventKind → List CommandEvent
events_of command kinds = map (λ k. record { command = command; kind = k }) kinds

-- the circuit breaker of the command
abbrev pub circuit_of : ℕ → Present → Circuit
circuit_of command g = slice_index_or g.circuits command new_circuit

-- how many permits or workers the command's runs have, also those that timed out and have not ended yet
abbrev pub busy_count : ℕ → Present → ℕ
busy_count command g = count_by (λ t. is_of command t && t.busy) g.tickets

-- how many tickets of the command wait for a worker of the thread pool
abbrev pub queued_count : ℕ → Present → ℕ
queued_count command g = count_by (λ t. is_of command t && is_queued t) g.tickets

-- how many fallbacks of the command are under way, which have permits of their own, apart from those of runs
abbrev pub in_fallback_count : ℕ → Present → ℕ
in_fallback_count command g = count_by (λ t. is_of command t && is_in_fallback t) g.tickets

-- whether the isolation strategy is the group's thread pool
abbrev pub is_pooled : Strategy → Bool
is_pooled strategy.Thread = true
is_pooled strategy.Semaphore = false

-- whether the ticket is of a command that runs in the group's thread pool
abbrev pub runs_in_pool : GroupProps → Ticket → Bool
runs_in_pool props t = is_pooled (props_of t.command props).strategy

-- how many workers of the group's thread pool are at a run, of whichever command
abbrev pub pool_busy_count : Present → ℕ
pool_busy_count g = count_by (λ t. t.busy && runs_in_pool g.props t) g.tickets

-- how many tickets wait for a worker of the group's thread pool, of whichever command
abbrev pub pool_queued_count : Present → ℕ
pool_queued_count g = count_by is_queued g.tickets

-- how many slots are free for new tickets, where each ticket that is still needed takes one
abbrev pub free_count : Present → ℕ
free_count g = g.props.slots - length g.tickets

-- the group with one ticket changed: the first that passes the test
abbrev pub changed : (Ticket → Bool) → (Ticket → Ticket) → Present → Present
changed p f g = record g { tickets = changed_first p f g.tickets }

-- the group with another circuit breaker of the command
abbrev pub with_circuit : ℕ → Circuit → Present → Present
with_circuit command c g = record g { circuits = set g.circuits command c }

-- the group after the command's circuit breaker was told, at the step's moment, how its ticket of the serial ended
abbrev pub ended_in : Present → ℕ → ℕ → End → Present
ended_in g command serial e = with_circuit command (ended serial e g.latest (circuit_of command g)) g

-- Submit

-- the tickets that a request of the command and of the name may join
abbrev pub is_joined_by : ℕ → Option (ℕ × List ℕ) → Ticket → Bool
is_joined_by command None t = false
is_joined_by command (Some name) t = is_cached_as command name t

-- the cached ticket of the command and of the name
abbrev pub cached_as : ℕ → Option (ℕ × List ℕ) → Present → Option Ticket
cached_as command name g =
    if (props_of command g.props).cache_on then find (is_joined_by command name) g.tickets else None

-- how many may wait for a worker
abbrev pub queue_limit : Option ℕ → ℕ → ℕ
queue_limit None threshold = 0
queue_limit (Some most) threshold = min most threshold

-- whether fewer runs are busy or queued than the thread pool has workers and places in the queue together
abbrev pub pool_admits : ℕ → ℕ → ℕ → Option ℕ → ℕ → Bool
pool_admits busy queued core max_queue threshold = nat_lt (busy + queued) (core + queue_limit max_queue threshold)

-- whether the isolation strategy allows the command one more run: one of its permits is free, or the thread pool of
-- the group has room
abbrev pub is_admitted : Present → ℕ → Strategy → Bool
is_admitted g command strategy.Semaphore = nat_lt (busy_count command g) (props_of command g.props).semaphore
is_admitted g command strategy.Thread =
    pool_admits (pool_busy_count g) (pool_queued_count g) g.props.core g.props.max_queue g.props.queue_threshold

-- with a ticket of the next serial
abbrev pub with_ticket : Request → TicketState → Bool → Bool → Present → Present
with_ticket request state busy test g = record g {
  serial = g.serial + 1;
  tickets = g.tickets ++ record {
    serial = g.serial;
    command = request.command;
    arg = request.arg;
    cache = request.cache;
    submitted = g.latest;
    state = state;
    busy = busy;
    holders = 1;
    cached = (props_of request.command g.props).cache_on && is_some request.cache;
    test = test;
  } ∷ [];
}

-- a request that may not run still gets a ticket, which needs a fallback; an event tells of the refusal
abbrev pub due_fallback : Cause → EventKind → Request → Bool → Present → Outcome
due_fallback cause event request test g =
    answers (reply.FallbackDue g.serial cause) (events_of request.command (event ∷ [])) (with_ticket request (ticket.NeedsFallback cause) false test g)

-- a test that is rejected has failed
abbrev pub rejected : Strategy → Request → Bool → Present → Outcome
rejected strategy.Semaphore request test g =
    due_fallback cause.SemaphoreRejected kind.SemaphoreRejected request test (ended_in g request.command g.serial end.Error)
rejected strategy.Thread request test g =
    due_fallback cause.PoolRejected kind.ThreadPoolRejected request test (ended_in g request.command g.serial end.Error)

-- the new ticket waits for a worker or, under a permit, is run by the caller at once
abbrev pub admitted : Strategy → Request → Bool → Present → Outcome
admitted strategy.Semaphore request test g = answers (reply.Inline g.serial) [] (with_ticket request ticket.Running true test g)
admitted strategy.Thread request test g = answers (reply.Queued g.serial) [] (with_ticket request ticket.Queued false test g)

-- a submit that the circuit breaker lets pass is run, or rejected where the isolation strategy has no room
abbrev pub placed : Request → Bool → Present → Outcome
placed request test g =
    let strategy = (props_of request.command g.props).strategy in
    if is_admitted g request.command strategy then admitted strategy request test g else rejected strategy request test g

-- a submit is short-circuited to its fallback, or goes on, perhaps as the test call
abbrev pub circuit_said : Admit → Request → Present → Outcome
circuit_said admit.Short request g = due_fallback cause.ShortCircuited kind.ShortCircuited request false g
circuit_said admit.Test request g = placed request true g
circuit_said admit.Pass request g = placed request false g

-- a submit goes on as the circuit breaker says, whose state and snapshot may have changed by being asked
abbrev pub circuit_asked : Asked → Request → Present → Outcome
circuit_asked a request g = circuit_said a.says request (with_circuit request.command a.circuit g)

-- a submit may join a cached ticket without asking for a slot or the circuit breaker; else it asks for both
abbrev pub submitted : Option Ticket → Request → Rolling → Present → Outcome
submitted (Some t) request rolling g =
    answers (reply.Joined t.serial) (events_of request.command (kind.ResponseFromCache ∷ []))
    (changed (is_joined_by request.command request.cache) (λ u. record u { holders = u.holders + 1 }) g)
submitted None request rolling g =
    if free_count g == 0
    then answers reply.GroupFull [] g
    else circuit_asked (asked (props_of request.command g.props) g.latest rolling.health g.serial (circuit_of request.command g)) request g

-- Start

-- a worker that asks gets the queued ticket of least serial, unless none waits or all workers are busy
abbrev pub started : Option Ticket → Present → Outcome
started None g = answers reply.Idle [] g
started (Some t) g =
    answers (reply.Assigned t.serial t.command t.arg) [] (changed is_queued (λ t. record t { state = ticket.Running; busy = true }) g)

-- Finish and Fail

-- the run of the ticket has ended, and it goes on to the state
abbrev pub run_ended : Option Ticket → ℕ → TicketState → End → EventKind → Present → Outcome
run_ended None serial state e event g = answers reply.NotRunning [] g
run_ended (Some t) serial state e event g =
    if is_running t
    then record {
      reply = reply.Done;
      present = ended_in (changed (is_busy_at serial) (λ t. record t { state = state; busy = false }) g) t.command serial e;
      events = events_of t.command (event ∷ []);
      closed = (if closes serial e (circuit_of t.command g).state then Some t.command else None);
    }
    else answers reply.Late [] (changed (is_busy_at serial) (λ t. record t { busy = false }) g)

-- Expire

-- whether timeouts of its command are on and the timeout has passed since the submit of a ticket that is queued or running
abbrev pub is_due : Present → Ticket → Bool
is_due g t =
    let props = props_of t.command g.props in
    props.timeout_on && (is_queued t || is_running t) && nat_le props.timeout_ms (g.latest - t.submitted)

-- a circuit breaker after tickets timed out: where its test call is among them, it is told of an error
abbrev pub test_timed_out : Option Ticket → ℕ → Circuit → Circuit
test_timed_out None now c = c
test_timed_out (Some t) now c = ended t.serial end.Error now c

-- the due tickets time out and need a fallback; a running one keeps its worker or permit until its run ends. Serials are
-- the group's, so a test call's serial tells which command's it is
abbrev pub expired : List Ticket → Present → Outcome
expired due g = answers (reply.Expired (length due)) (map (λ t. record { command = t.command; kind = kind.Timeout }) due) (record g {
  tickets = map (λ t. if is_due g t then in_state (ticket.NeedsFallback cause.Timeout) t else t) g.tickets;
  circuits = map (λ c. test_timed_out (find (λ t. is_test t.serial c.state) due) g.latest c) g.circuits;
})

-- Collect

-- the ticket after one of its holders has collected the answer
abbrev pub released_by_one : Ticket → Ticket
released_by_one t = record t { holders = t.holders - 1 }

-- the fallback may not run: the ticket is answered, and this holder has collected
abbrev pub without_fallback : ℕ → Cause → FallbackFault → List CommandEvent → Present → Outcome
without_fallback serial cause fault events g =
    let a : Answer = answer.Error cause fault in
    answers (reply.Answered a) events (changed (is_held_at serial) (λ t. released_by_one (in_state (ticket.Answered a) t)) g)

-- what a holder that collects gets of a ticket of the command: the answer, the fallback to run, an error in its place,
-- or no answer yet
abbrev pub collected_in : TicketState → ℕ → ℕ → Present → Outcome
collected_in (ticket.Answered a) command serial g = answers (reply.Answered a) [] (changed (is_held_at serial) released_by_one g)
collected_in (ticket.NeedsFallback cause) command serial g =
    if not (props_of command g.props).fallback_on then without_fallback serial cause fault.Disabled (events_of command (kind.ExceptionThrown ∷ [])) g else
    if nat_le (props_of command g.props).fallback_permits (in_fallback_count command g) then without_fallback serial cause fault.Rejected (events_of command (kind.FallbackRejection ∷ kind.ExceptionThrown ∷ [])) g else
    answers (reply.RunFallback cause) [] (changed (is_held_at serial) (in_state (ticket.InFallback cause)) g)
collected_in _ command serial g = answers reply.Pending [] g

-- a collect goes by the state of the ticket that is held under the serial, if there is one
abbrev pub collected : Option Ticket → ℕ → Present → Outcome
collected None serial g = answers reply.NoTicket [] g
collected (Some t) serial g = collected_in t.state t.command serial g

-- FallbackDone

-- the answer after a fallback: its value, or an error that says why it was due and why it gave none
abbrev pub fallback_answer : FallbackEnd → Cause → Answer
fallback_answer (fallback.Success body) cause = answer.FallbackValue cause body
fallback_answer fallback.Failure cause = answer.Error cause fault.Failed
fallback_answer fallback.Missing cause = answer.Error cause fault.Missing

-- the events of a fallback's end: an exception is thrown only where the fallback gave no value
abbrev pub fallback_events : FallbackEnd → List EventKind
fallback_events (fallback.Success body) = kind.FallbackSuccess ∷ []
fallback_events fallback.Failure = kind.FallbackFailure ∷ kind.ExceptionThrown ∷ []
fallback_events fallback.Missing = kind.FallbackMissing ∷ kind.ExceptionThrown ∷ []

-- the end of a fallback that is under way gives the ticket its answer, the same for each holder
abbrev pub fallback_done_in : TicketState → ℕ → ℕ → FallbackEnd → Present → Outcome
fallback_done_in (ticket.InFallback cause) command serial e g =
    answers reply.Done (events_of command (fallback_events e)) (changed (is_in_fallback_at serial) (in_state (ticket.Answered (fallback_answer e cause))) g)
fallback_done_in _ command serial e g = answers reply.NotInFallback [] g

-- a fallback's end counts for the ticket of the serial whose fallback is under way, if there is one
abbrev pub fallback_done : Option Ticket → ℕ → FallbackEnd → Present → Outcome
fallback_done None serial e g = answers reply.NotInFallback [] g
fallback_done (Some t) serial e g = fallback_done_in t.state t.command serial e g

-- Close

-- the end of a request context: no request joins its tickets any more, and their holders keep them
abbrev pub context_closed : ℕ → Present → Outcome
context_closed context g = answers (reply.Closed (count_by (is_cached_in context) g.tickets)) [] (record g {
  tickets = map (λ t. if is_cached_in context t then record t { cached = false } else t) g.tickets;
})

-- Read

-- the metrics of a command, and the free slots of its group; health is that of the step's moment, not that of the
-- circuit breaker's snapshot
abbrev pub metrics : ℕ → Rolling → Present → Reply
metrics command rolling g = reply.Metrics (record {
  circuit = (circuit_of command g).state;
  counts = rolling.counts;
  errors = rolling.health.errors;
  total = rolling.health.total;
  percent = percent rolling.health;
  busy = busy_count command g;
  queued = queued_count command g;
  free = free_count g;
})

-- Tune

-- From now on the property is another, for whatever comes and for the tickets that are there: what is due, what a permit or a
-- worker is free for, and what the circuit breaker says goes by it. Tickets, events and circuit breakers stay as they are. A
-- value that is out of range changes nothing.
abbrev pub tuned : Tuning → ℕ → Present → Outcome
tuned t command g =
    if is_within t then answers reply.Tuned [] (record g { props = group_tuned t command g.props }) else answers reply.OutOfRange [] g

-- the case of each op; the latest moment is the step's

-- what an operation does in a group whose step has begun, given the rolling counts and health of each command
abbrev pub outcome : Op → (ℕ → Rolling) → Present → Outcome
outcome (op.Submit request) rolling g =
    submitted (cached_as request.command request.cache g) request (rolling request.command) g
outcome op.Start rolling g = started (if nat_lt (pool_busy_count g) g.props.core then find is_queued g.tickets else None) g
outcome (op.Finish serial body) rolling g =
    run_ended (find (is_busy_at serial) g.tickets) serial (ticket.Answered (answer.Value body)) end.Success kind.Success g
outcome (op.Fail serial true) rolling g =
    run_ended (find (is_busy_at serial) g.tickets) serial (ticket.Answered answer.BadRequest) end.BadRequest kind.BadRequest g
outcome (op.Fail serial false) rolling g =
    run_ended (find (is_busy_at serial) g.tickets) serial (ticket.NeedsFallback cause.Failure) end.Error kind.Failure g
outcome op.Expire rolling g = expired (filter (is_due g) g.tickets) g
outcome (op.Collect serial) rolling g = collected (find (is_held_at serial) g.tickets) serial g
outcome (op.FallbackDone serial e) rolling g = fallback_done (find (is_in_fallback_at serial) g.tickets) serial e g
outcome (op.Close context) rolling g = context_closed context g
outcome (op.Read command) rolling g = answers (metrics command (rolling command) g) [] g
outcome (op.Totals command) rolling g = answers (reply.Totals (rolling command).totals) [] g
outcome (op.Tune command t) rolling g = tuned t command g
