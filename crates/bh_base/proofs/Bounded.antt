-- What bounds the holders of a ticket, and the events of a step.
use Rattle.std.proofs.Common.{◌≡◌, ℕ, ◌+◌, ◌≤◌, Bool, true, false, not, cond, List, [], ◌∷◌, ◌++◌, map, filter, Option, Some, None, refl, arith}
use Rattle.std.specs.Prelude.{◌==◌, nat_le, if◌then◌else◌}
use Rattle.bh_base.specs.declared.circuit.Admit.{Admit}
use Rattle.bh_base.specs.declared.circuit.Admit.TheVariants as admit
use Rattle.bh_base.specs.declared.circuit.End.{End}
use Rattle.bh_base.specs.declared.event.EventKind.{EventKind}
use Rattle.bh_base.specs.declared.event.Rolling.{Rolling}
use Rattle.bh_base.specs.declared.props.Strategy.{Strategy}
use Rattle.bh_base.specs.declared.props.Strategy.TheVariants as strategy
use Rattle.bh_base.specs.declared.reply.Cause.TheVariants as cause
use Rattle.bh_base.specs.declared.step.FallbackEnd.{FallbackEnd}
use Rattle.bh_base.specs.declared.step.Op.{Op}
use Rattle.bh_base.specs.declared.step.Op.TheVariants as op
use Rattle.bh_base.specs.declared.step.Request.{Request}
use Rattle.bh_base.specs.declared.ticket.Ticket.{Ticket}
use Rattle.bh_base.specs.declared.ticket.TicketState.{TicketState}
use Rattle.bh_base.specs.declared.ticket.TicketState.TheVariants as ticket
use Rattle.bh_base.specs.Circuit.{Asked, asked}
use Rattle.bh_base.specs.Tickets.{changed_first, is_running, is_cached_in, in_state}
use Rattle.bh_base.specs.Commands.{props_of}
use Rattle.bh_base.specs.Tunings.{is_within}
use Rattle.bh_base.specs.Machine.{circuit_of, with_circuit, Present, Outcome, outcome, placed, admitted, rejected, is_admitted, circuit_said, submitted, started, run_ended, collected, collected_in, fallback_done, fallback_done_in, cached_as, free_count, in_fallback_count, is_due}
use Rattle.bh_base.specs.Bounds.{HeldBy}

abbrev Held : ℕ → Present → Type 0
Held most g = HeldBy most g.tickets

held_more : (most more : ℕ) (ts : List Ticket) → most ≤ more → HeldBy most ts → HeldBy more ts
held_more most more [] le held = tt
held_more most more (t ∷ ts) le held = (omega (arith, le, held.0), held_more most more ts le held.1)

held_changed : (p : Ticket → Bool) (f : Ticket → Ticket) → ((t : Ticket) → (f t).holders ≤ t.holders + 1) → (most : ℕ) (ts : List Ticket) → HeldBy most ts → HeldBy (most + 1) (changed_first p f ts)
held_changed p f grows most [] held = tt
held_changed p f grows most (t ∷ ts) held = at (p t) (held_changed p f grows most ts held.1)
  where
    at : (b : Bool) → HeldBy (most + 1) (changed_first p f ts) → HeldBy (most + 1) (if b then f t ∷ ts else t ∷ changed_first p f ts)
    at true later = (omega (arith, held.0, grows t), held_more most (most + 1) ts (omega arith) held.1)
    at false later = (omega (arith, held.0), later)

held_mapped : (f : Ticket → Ticket) → ((t : Ticket) → (f t).holders ≡ t.holders) → (most : ℕ) (ts : List Ticket) → HeldBy most ts → HeldBy most (map f ts)
held_mapped f same most [] held = tt
held_mapped f same most (t ∷ ts) held = (omega (arith, held.0, same t), held_mapped f same most ts held.1)

-- some of the tickets have no more holders than all had
pub held_filtered : (p : Ticket → Bool) (most : ℕ) (ts : List Ticket) → HeldBy most ts → HeldBy most (filter p ts)
held_filtered p most [] held = tt
held_filtered p most (t ∷ ts) held = at (p t) (held_filtered p most ts held.1)
  where
    at : (b : Bool) → HeldBy most (filter p ts) → HeldBy most (cond b (t ∷ filter p ts) (filter p ts))
    at true later = (held.0, later)
    at false later = later

held_added : (t : Ticket) (most : ℕ) (ts : List Ticket) → t.holders ≡ 1 → HeldBy most ts → HeldBy (most + 1) (ts ++ t ∷ [])
held_added t most [] one held = (omega (arith, one), tt)
held_added t most (u ∷ us) one held = (omega (arith, held.0), held_added t most us one held.1)

either : (b : Bool) (x y : Outcome) (most : ℕ) → Held most x.present → Held most y.present → Held most (if b then x else y).present
either true x y most h k = h
either false x y most h k = k

admitted_held : (s : Strategy) (request : Request) (test : Bool) (g : Present) (most : ℕ) → Held most g → Held (most + 1) (admitted s request test g).present
admitted_held strategy.Semaphore request test g most held = held_added _ most g.tickets refl held
admitted_held strategy.Thread request test g most held = held_added _ most g.tickets refl held

rejected_held : (s : Strategy) (request : Request) (test : Bool) (g : Present) (most : ℕ) → Held most g → Held (most + 1) (rejected s request test g).present
rejected_held strategy.Semaphore request test g most held = held_added _ most g.tickets refl held
rejected_held strategy.Thread request test g most held = held_added _ most g.tickets refl held

placed_held : (request : Request) (test : Bool) (g : Present) (most : ℕ) → Held most g → Held (most + 1) (placed request test g).present
placed_held request test g most held =
    either (is_admitted g request.command (props_of request.command g.props).strategy) _ _ (most + 1) (admitted_held (props_of request.command g.props).strategy request test g most held) (rejected_held (props_of request.command g.props).strategy request test g most held)

said_held : (a : Admit) (request : Request) (g : Present) (most : ℕ) → Held most g → Held (most + 1) (circuit_said a request g).present
said_held admit.Short request g most held = held_added _ most g.tickets refl held
said_held admit.Test request g most held = placed_held request true g most held
said_held admit.Pass request g most held = placed_held request false g most held

same_held : (g : Present) (most : ℕ) → Held most g → Held (most + 1) g
same_held g most held = held_more most (most + 1) g.tickets (omega arith) held

submitted_held : (t : Option Ticket) (request : Request) (rolling : Rolling) (g : Present) (most : ℕ) → Held most g → Held (most + 1) (submitted t request rolling g).present
submitted_held (Some t) request rolling g most held = held_changed _ _ (λ u. omega arith) most g.tickets held
submitted_held None request rolling g most held =
    let a : Asked = asked (props_of request.command g.props) g.latest rolling.health g.serial (circuit_of request.command g) in
    either (free_count g == 0) _ _ (most + 1) (same_held g most held) (said_held a.says request (with_circuit request.command a.circuit g) most held)

started_held : (t : Option Ticket) (g : Present) (most : ℕ) → Held most g → Held (most + 1) (started t g).present
started_held None g most held = same_held g most held
started_held (Some t) g most held = held_changed _ _ (λ u. omega arith) most g.tickets held

run_held : (t : Option Ticket) (n : ℕ) (s : TicketState) (e : End) (k : EventKind) (g : Present) (most : ℕ) → Held most g → Held (most + 1) (run_ended t n s e k g).present
run_held None n s e k g most held = same_held g most held
run_held (Some t) n s e k g most held =
    either (is_running t) _ _ (most + 1) (held_changed _ _ (λ u. omega arith) most g.tickets held) (held_changed _ _ (λ u. omega arith) most g.tickets held)

collected_held : (t : Option Ticket) (n : ℕ) (g : Present) (most : ℕ) → Held most g → Held (most + 1) (collected t n g).present
collected_held None n g most held = same_held g most held
collected_held (Some t) n g most held = at t.state
  where
    at : (s : TicketState) → Held (most + 1) (collected_in s t.command n g).present
    at (ticket.Answered a) = held_changed _ _ (λ u. omega arith) most g.tickets held
    at (ticket.NeedsFallback c) =
        either (not (props_of t.command g.props).fallback_on) _ _ (most + 1) (held_changed _ _ (λ u. omega arith) most g.tickets held)
        (either (nat_le (props_of t.command g.props).fallback_permits (in_fallback_count t.command g)) _ _ (most + 1) (held_changed _ _ (λ u. omega arith) most g.tickets held) (held_changed _ _ (λ u. omega arith) most g.tickets held))
    at ticket.Queued = same_held g most held
    at ticket.Running = same_held g most held
    at (ticket.InFallback c) = same_held g most held

fallback_held : (t : Option Ticket) (n : ℕ) (e : FallbackEnd) (g : Present) (most : ℕ) → Held most g → Held (most + 1) (fallback_done t n e g).present
fallback_held None n e g most held = same_held g most held
fallback_held (Some t) n e g most held = at t.state
  where
    at : (s : TicketState) → Held (most + 1) (fallback_done_in s t.command n e g).present
    at (ticket.InFallback c) = held_changed _ _ (λ u. omega arith) most g.tickets held
    at (ticket.Answered a) = same_held g most held
    at (ticket.NeedsFallback c) = same_held g most held
    at ticket.Queued = same_held g most held
    at ticket.Running = same_held g most held

same_if : (b : Bool) (f : Ticket → Ticket) (t : Ticket) → (f t).holders ≡ t.holders → (if b then f t else t).holders ≡ t.holders
same_if true f t e = e
same_if false f t e = refl

-- a step adds at most one holder to a ticket
pub outcome_held : (o : Op) (rolling : ℕ → Rolling) (g : Present) (most : ℕ) → Held most g → Held (most + 1) (outcome o rolling g).present
outcome_held (op.Submit request) rolling g most held = submitted_held (cached_as request.command request.cache g) request (rolling request.command) g most held
outcome_held op.Start rolling g most held = started_held _ g most held
outcome_held (op.Finish serial body) rolling g most held = run_held _ _ _ _ _ g most held
outcome_held (op.Fail serial true) rolling g most held = run_held _ _ _ _ _ g most held
outcome_held (op.Fail serial false) rolling g most held = run_held _ _ _ _ _ g most held
outcome_held op.Expire rolling g most held = same_held (outcome op.Expire rolling g).present most (held_mapped _ (λ t. same_if (is_due g t) (in_state (ticket.NeedsFallback cause.Timeout)) t refl) most g.tickets held)
outcome_held (op.Collect serial) rolling g most held = collected_held _ _ g most held
outcome_held (op.FallbackDone serial e) rolling g most held = fallback_held _ _ e g most held
outcome_held (op.Close context) rolling g most held = same_held (outcome (op.Close context) rolling g).present most (held_mapped _ (λ t. same_if (is_cached_in context t) (λ t. record t { cached = false }) t refl) most g.tickets held)
outcome_held (op.Read command) rolling g most held = same_held g most held
outcome_held (op.Totals command) rolling g most held = same_held g most held
outcome_held (op.Tune command t) rolling g most held = either (is_within t) _ _ (most + 1) (same_held g most held) (same_held g most held)
