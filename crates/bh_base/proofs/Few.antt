-- A step records at most two events, or a timeout for each of the tickets.
use Rattle.std.proofs.Common.{ℕ, ◌+◌, ◌≤◌, Bool, true, false, not, cond, List, [], ◌∷◌, filter, length, Option, Some, None, arith}
use Rattle.std.proofs.lemmas.List.{length-map}
use Rattle.std.specs.Prelude.{◌==◌, nat_le, if◌then◌else◌}
use Rattle.bh_base.specs.declared.circuit.Admit.{Admit}
use Rattle.bh_base.specs.declared.circuit.Admit.TheVariants as admit
use Rattle.bh_base.specs.declared.circuit.End.{End}
use Rattle.bh_base.specs.declared.event.EventKind.{EventKind}
use Rattle.bh_base.specs.declared.event.EventKind.TheVariants as kind
use Rattle.bh_base.specs.declared.event.Rolling.{Rolling}
use Rattle.bh_base.specs.declared.props.Strategy.{Strategy}
use Rattle.bh_base.specs.declared.props.Strategy.TheVariants as strategy
use Rattle.bh_base.specs.declared.step.FallbackEnd.{FallbackEnd}
use Rattle.bh_base.specs.declared.step.FallbackEnd.TheVariants as fallback
use Rattle.bh_base.specs.declared.step.Op.{Op}
use Rattle.bh_base.specs.declared.step.Op.TheVariants as op
use Rattle.bh_base.specs.declared.step.Request.{Request}
use Rattle.bh_base.specs.declared.ticket.Ticket.{Ticket}
use Rattle.bh_base.specs.declared.ticket.TicketState.{TicketState}
use Rattle.bh_base.specs.declared.ticket.TicketState.TheVariants as ticket
use Rattle.bh_base.specs.Circuit.{Asked, asked}
use Rattle.bh_base.specs.Tickets.{is_running}
use Rattle.bh_base.specs.Commands.{props_of}
use Rattle.bh_base.specs.Tunings.{is_within}
use Rattle.bh_base.specs.Machine.{circuit_of, with_circuit, Present, Outcome, outcome, placed, admitted, rejected, is_admitted, circuit_said, submitted, started, run_ended, collected, collected_in, CommandEvent, fallback_done, fallback_done_in, fallback_events, cached_as, free_count, in_fallback_count, is_due}

-- the events of an outcome are so few
abbrev IsFew : ℕ → Outcome → Type 0
IsFew most out = length out.events ≤ most + 2

-- no more tickets are due than there are
pub filter_few : {X : Type 0} (p : X → Bool) (xs : List X) → length (filter p xs) ≤ length xs
filter_few p [] = omega arith
filter_few p (x ∷ xs) = at (p x) (filter_few p xs)
  where
    at : (b : Bool) → length (filter p xs) ≤ length xs → length (cond b (x ∷ filter p xs) (filter p xs)) ≤ length (x ∷ xs)
    at true later = omega arith
    at false later = omega arith

either : (b : Bool) (most : ℕ) (x y : Outcome) → IsFew most x → IsFew most y → IsFew most (if b then x else y)
either true most x y h k = h
either false most x y h k = k

admitted_few : (s : Strategy) (request : Request) (test : Bool) (g : Present) (most : ℕ) → IsFew most (admitted s request test g)
admitted_few strategy.Semaphore request test g most = omega arith
admitted_few strategy.Thread request test g most = omega arith

rejected_few : (s : Strategy) (request : Request) (test : Bool) (g : Present) (most : ℕ) → IsFew most (rejected s request test g)
rejected_few strategy.Semaphore request test g most = omega arith
rejected_few strategy.Thread request test g most = omega arith

placed_few : (request : Request) (test : Bool) (g : Present) (most : ℕ) → IsFew most (placed request test g)
placed_few request test g most =
    either (is_admitted g request.command (props_of request.command g.props).strategy) most _ _ (admitted_few (props_of request.command g.props).strategy request test g most) (rejected_few (props_of request.command g.props).strategy request test g most)

said_few : (a : Admit) (request : Request) (g : Present) (most : ℕ) → IsFew most (circuit_said a request g)
said_few admit.Short request g most = omega arith
said_few admit.Test request g most = placed_few request true g most
said_few admit.Pass request g most = placed_few request false g most

submitted_few : (t : Option Ticket) (request : Request) (rolling : Rolling) (g : Present) (most : ℕ) → IsFew most (submitted t request rolling g)
submitted_few (Some t) request rolling g most = omega arith
submitted_few None request rolling g most =
    let a : Asked = asked (props_of request.command g.props) g.latest rolling.health g.serial (circuit_of request.command g) in
    either (free_count g == 0) most _ _ (omega arith) (said_few a.says request (with_circuit request.command a.circuit g) most)

started_few : (t : Option Ticket) (g : Present) (most : ℕ) → IsFew most (started t g)
started_few None g most = omega arith
started_few (Some t) g most = omega arith

run_few : (t : Option Ticket) (n : ℕ) (s : TicketState) (e : End) (k : EventKind) (g : Present) (most : ℕ) → IsFew most (run_ended t n s e k g)
run_few None n s e k g most = omega arith
run_few (Some t) n s e k g most = either (is_running t) most _ _ (omega arith) (omega arith)

collected_few : (t : Option Ticket) (n : ℕ) (g : Present) (most : ℕ) → IsFew most (collected t n g)
collected_few None n g most = omega arith
collected_few (Some t) n g most = at t.state
  where
    at : (s : TicketState) → IsFew most (collected_in s t.command n g)
    at (ticket.Answered a) = omega arith
    at (ticket.NeedsFallback c) =
        either (not (props_of t.command g.props).fallback_on) most _ _ (omega arith) (either (nat_le (props_of t.command g.props).fallback_permits (in_fallback_count t.command g)) most _ _ (omega arith) (omega arith))
    at ticket.Queued = omega arith
    at ticket.Running = omega arith
    at (ticket.InFallback c) = omega arith

end_few : (e : FallbackEnd) → length (fallback_events e) ≤ 2
end_few (fallback.Success body) = omega arith
end_few fallback.Failure = omega arith
end_few fallback.Missing = omega arith

fallback_few : (t : Option Ticket) (n : ℕ) (e : FallbackEnd) (g : Present) (most : ℕ) → IsFew most (fallback_done t n e g)
fallback_few None n e g most = omega arith
fallback_few (Some t) n e g most = at t.state
  where
    at : (s : TicketState) → IsFew most (fallback_done_in s t.command n e g)
    at (ticket.InFallback c) = omega (arith, end_few e, length-map {B = CommandEvent} (fallback_events e) (λ k. record { command = t.command; kind = k }))
    at (ticket.Answered a) = omega arith
    at (ticket.NeedsFallback c) = omega arith
    at ticket.Queued = omega arith
    at ticket.Running = omega arith

-- an operation records at most two events beside a timeout for each ticket
pub outcome_few : (o : Op) (rolling : ℕ → Rolling) (g : Present) → IsFew (length g.tickets) (outcome o rolling g)
outcome_few (op.Submit request) rolling g = submitted_few (cached_as request.command request.cache g) request (rolling request.command) g _
outcome_few op.Start rolling g = started_few _ g _
outcome_few (op.Finish serial body) rolling g = run_few _ _ _ _ _ g _
outcome_few (op.Fail serial true) rolling g = run_few _ _ _ _ _ g _
outcome_few (op.Fail serial false) rolling g = run_few _ _ _ _ _ g _
outcome_few op.Expire rolling g = omega (arith, filter_few (is_due g) g.tickets, length-map {B = CommandEvent} (filter (is_due g) g.tickets) (λ t. record { command = t.command; kind = kind.Timeout }))
outcome_few (op.Collect serial) rolling g = collected_few _ _ g _
outcome_few (op.FallbackDone serial e) rolling g = fallback_few _ _ e g _
outcome_few (op.Close context) rolling g = omega arith
outcome_few (op.Read command) rolling g = omega arith
outcome_few (op.Totals command) rolling g = omega arith
outcome_few (op.Tune command t) rolling g = either (is_within t) _ _ _ (omega arith) (omega arith)
