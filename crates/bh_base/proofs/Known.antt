-- Each step keeps the tickets to commands that the group has.
use Rattle.std.proofs.Common.{◌≡◌, ℕ, ◌<◌, Bool, true, false, not, cond, List, [], ◌∷◌, ◌++◌, map, filter, Option, Some, None, refl, arith, sym, subst}
use Rattle.std.proofs.lemmas.Bool.Decides.{nat_tests}
use Rattle.std.specs.Prelude.{◌==◌, nat_le, if◌then◌else◌}
use Rattle.std.specs.List.{AllByRecursion}
use Rattle.bh_base.specs.declared.circuit.Admit.{Admit}
use Rattle.bh_base.specs.declared.circuit.Admit.TheVariants as admit
use Rattle.bh_base.specs.declared.circuit.End.{End}
use Rattle.bh_base.specs.declared.event.EventKind.{EventKind}
use Rattle.bh_base.specs.declared.event.Rolling.{Rolling}
use Rattle.bh_base.specs.declared.props.Strategy.{Strategy}
use Rattle.bh_base.specs.declared.props.Strategy.TheVariants as strategy
use Rattle.bh_base.specs.declared.reply.Cause.TheVariants as cause
use Rattle.bh_base.specs.declared.step.FallbackEnd.{FallbackEnd}
use Rattle.bh_base.specs.declared.step.Op.{Op}
use Rattle.bh_base.specs.declared.step.Op.TheVariants as op
use Rattle.bh_base.specs.declared.step.Request.{Request}
use Rattle.bh_base.specs.declared.ticket.Ticket.{Ticket}
use Rattle.bh_base.specs.declared.ticket.TicketState.{TicketState}
use Rattle.bh_base.specs.declared.ticket.TicketState.TheVariants as ticket
use Rattle.bh_base.specs.Props.{GroupProps}
use Rattle.bh_base.specs.Commands.{props_of, command_count, is_known}
use Rattle.bh_base.specs.Tunings.{is_within}
use Rattle.bh_base.specs.Circuit.{Asked, asked}
use Rattle.bh_base.specs.Tickets.{changed_first, is_kept, is_running, is_cached_in, in_state}
use Rattle.bh_base.specs.Machine.{circuit_of, with_circuit, Present, Outcome, outcome, placed, admitted, rejected, is_admitted, circuit_said, submitted, started, run_ended, collected, collected_in, fallback_done, fallback_done_in, cached_as, free_count, in_fallback_count, is_due}
use Rattle.bh_base.specs.Order.{AreKnown, CommandsStayKnown}
use Rattle.bh_base.specs.Runs.{State, begun, is_worn, outcome_in, stepped}
use Rattle.bh_base.proofs.Kept.{Keeps, outcome_keeps}

abbrev Known : Present → Present → Type 0
Known old g = AreKnown old.props g.tickets

known_changed : (p : Ticket → Bool) (f : Ticket → Ticket) → ((t : Ticket) → (f t).command ≡ t.command) → (props : GroupProps) (ts : List Ticket) → AreKnown props ts → AreKnown props (changed_first p f ts)
known_changed p f same props [] known = tt
known_changed p f same props (t ∷ ts) known = at (p t) (known_changed p f same props ts known.1)
  where
    at : (b : Bool) → AreKnown props (changed_first p f ts) → AreKnown props (if b then f t ∷ ts else t ∷ changed_first p f ts)
    at true later = (omega (arith, known.0, same t), known.1)
    at false later = (known.0, later)

known_mapped : (f : Ticket → Ticket) → ((t : Ticket) → (f t).command ≡ t.command) → (props : GroupProps) (ts : List Ticket) → AreKnown props ts → AreKnown props (map f ts)
known_mapped f same props [] known = tt
known_mapped f same props (t ∷ ts) known = (omega (arith, known.0, same t), known_mapped f same props ts known.1)

pub known_filtered : (p : Ticket → Bool) (props : GroupProps) (ts : List Ticket) → AreKnown props ts → AreKnown props (filter p ts)
known_filtered p props [] known = tt
known_filtered p props (t ∷ ts) known = at (p t) (known_filtered p props ts known.1)
  where
    at : (b : Bool) → AreKnown props (filter p ts) → AreKnown props (cond b (t ∷ filter p ts) (filter p ts))
    at true later = (known.0, later)
    at false later = later

known_added : (t : Ticket) (props : GroupProps) (ts : List Ticket) → t.command < command_count props → AreKnown props ts → AreKnown props (ts ++ t ∷ [])
known_added t props [] of known = (of, tt)
known_added t props (u ∷ us) of known = (known.0, known_added t props us of known.1)

either : (b : Bool) (old : Present) (x y : Outcome) → Known old x.present → Known old y.present → Known old (if b then x else y).present
either true old x y h k = h
either false old x y h k = k

abbrev IsOf : Request → Present → Type 0
IsOf request g = request.command < command_count g.props

admitted_known : (s : Strategy) (request : Request) (test : Bool) (g : Present) → IsOf request g → Known g g → Known g (admitted s request test g).present
admitted_known strategy.Semaphore request test g of known = known_added _ g.props g.tickets of known
admitted_known strategy.Thread request test g of known = known_added _ g.props g.tickets of known

rejected_known : (s : Strategy) (request : Request) (test : Bool) (g : Present) → IsOf request g → Known g g → Known g (rejected s request test g).present
rejected_known strategy.Semaphore request test g of known = known_added _ g.props g.tickets of known
rejected_known strategy.Thread request test g of known = known_added _ g.props g.tickets of known

placed_known : (request : Request) (test : Bool) (g : Present) → IsOf request g → Known g g → Known g (placed request test g).present
placed_known request test g of known =
    either (is_admitted g request.command (props_of request.command g.props).strategy) g _ _ (admitted_known (props_of request.command g.props).strategy request test g of known) (rejected_known (props_of request.command g.props).strategy request test g of known)

said_known : (a : Admit) (request : Request) (g : Present) → IsOf request g → Known g g → Known g (circuit_said a request g).present
said_known admit.Short request g of known = known_added _ g.props g.tickets of known
said_known admit.Test request g of known = placed_known request true g of known
said_known admit.Pass request g of known = placed_known request false g of known

submitted_known : (t : Option Ticket) (request : Request) (rolling : Rolling) (g : Present) → IsOf request g → Known g g → Known g (submitted t request rolling g).present
submitted_known (Some t) request rolling g of known = known_changed _ _ (λ u. refl) g.props g.tickets known
submitted_known None request rolling g of known =
    let a : Asked = asked (props_of request.command g.props) g.latest rolling.health g.serial (circuit_of request.command g) in
    either (free_count g == 0) g _ _ known (said_known a.says request (with_circuit request.command a.circuit g) of known)

started_known : (t : Option Ticket) (g : Present) → Known g g → Known g (started t g).present
started_known None g known = known
started_known (Some t) g known = known_changed _ _ (λ u. refl) g.props g.tickets known

run_known : (t : Option Ticket) (n : ℕ) (s : TicketState) (e : End) (k : EventKind) (g : Present) → Known g g → Known g (run_ended t n s e k g).present
run_known None n s e k g known = known
run_known (Some t) n s e k g known =
    either (is_running t) g _ _ (known_changed _ _ (λ u. refl) g.props g.tickets known) (known_changed _ _ (λ u. refl) g.props g.tickets known)

collected_known : (t : Option Ticket) (n : ℕ) (g : Present) → Known g g → Known g (collected t n g).present
collected_known None n g known = known
collected_known (Some t) n g known = at t.state
  where
    changed_known : (f : Ticket → Ticket) (p : Ticket → Bool) → ((t : Ticket) → (f t).command ≡ t.command) → AreKnown g.props (changed_first p f g.tickets)
    changed_known f p same = known_changed p f same g.props g.tickets known

    at : (s : TicketState) → Known g (collected_in s t.command n g).present
    at (ticket.Answered a) = changed_known _ _ (λ u. refl)
    at (ticket.NeedsFallback c) =
        either (not (props_of t.command g.props).fallback_on) g _ _ (changed_known _ _ (λ u. refl))
        (either (nat_le (props_of t.command g.props).fallback_permits (in_fallback_count t.command g)) g _ _ (changed_known _ _ (λ u. refl)) (changed_known _ _ (λ u. refl)))
    at ticket.Queued = known
    at ticket.Running = known
    at (ticket.InFallback c) = known

fallback_known : (t : Option Ticket) (n : ℕ) (e : FallbackEnd) (g : Present) → Known g g → Known g (fallback_done t n e g).present
fallback_known None n e g known = known
fallback_known (Some t) n e g known = at t.state
  where
    at : (s : TicketState) → Known g (fallback_done_in s t.command n e g).present
    at (ticket.InFallback c) = known_changed _ _ (λ u. refl) g.props g.tickets known
    at (ticket.Answered a) = known
    at (ticket.NeedsFallback c) = known
    at ticket.Queued = known
    at ticket.Running = known

same_if : (b : Bool) (f : Ticket → Ticket) (t : Ticket) → (f t).command ≡ t.command → (if b then f t else t).command ≡ t.command
same_if true f t e = e
same_if false f t e = refl

-- an operation that names no command that the group lacks makes no ticket of such a command
pub outcome_known : (o : Op) (rolling : ℕ → Rolling) (g : Present) → is_known o g.props ≡ true → Known g g → Known g (outcome o rolling g).present
outcome_known (op.Submit request) rolling g of known =
    submitted_known (cached_as request.command request.cache g) request (rolling request.command) g (grind (arith, nat_tests)) known
outcome_known op.Start rolling g of known = started_known _ g known
outcome_known (op.Finish serial body) rolling g of known = run_known _ _ _ _ _ g known
outcome_known (op.Fail serial true) rolling g of known = run_known _ _ _ _ _ g known
outcome_known (op.Fail serial false) rolling g of known = run_known _ _ _ _ _ g known
outcome_known op.Expire rolling g of known = known_mapped _ (λ t. same_if (is_due g t) (in_state (ticket.NeedsFallback cause.Timeout)) t refl) g.props g.tickets known
outcome_known (op.Collect serial) rolling g of known = collected_known _ _ g known
outcome_known (op.FallbackDone serial e) rolling g of known = fallback_known _ _ e g known
outcome_known (op.Close context) rolling g of known = known_mapped _ (λ t. same_if (is_cached_in context t) (λ t. record t { cached = false }) t refl) g.props g.tickets known
outcome_known (op.Read command) rolling g of known = known
outcome_known (op.Totals command) rolling g of known = known
outcome_known (op.Tune command t) rolling g of known = either (is_within t) g _ _ known known

pub commands_stay_known : CommandsStayKnown
commands_stay_known = record {
  opened = λ props limit. tt;
  stepped = λ s o now known. at s o now (is_known o s.present.props) refl (is_worn s.present) known;
}
  where
    at : (s : State) (o : Op) (now : ℕ) (known : Bool) → is_known o s.present.props ≡ known → (worn : Bool) → AreKnown s.present.props s.present.tickets → AreKnown (stepped known worn s (outcome_in s o now)).state.present.props (stepped known worn s (outcome_in s o now)).state.present.tickets
    at s o now false is worn known = known
    at s o now true is true known = known
    at s o now true is false known =
        let keeps : Keeps (begun now s.present) (outcome_in s o now).present = outcome_keeps o _ (begun now s.present) in
        subst (λ (n : ℕ). AllByRecursion (λ t. t.command < n) (filter is_kept (outcome_in s o now).present.tickets)) (sym keeps.props.count)
        (known_filtered is_kept s.present.props _ (outcome_known o _ (begun now s.present) is known))
