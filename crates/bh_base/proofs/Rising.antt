-- Each step keeps the tickets in the order of their serials.
use Rattle.std.proofs.Common.{◌≡◌, ℕ, ◌+◌, ◌≤◌, Bool, true, false, not, cond, List, [], ◌∷◌, ◌++◌, map, filter, Option, Some, None, refl, arith, sym, subst}
use Rattle.std.specs.Prelude.{◌==◌, nat_le, if◌then◌else◌}
use Rattle.bh_base.specs.declared.props.Strategy.{Strategy}
use Rattle.bh_base.specs.declared.props.Strategy.TheVariants as strategy
use Rattle.bh_base.specs.declared.ticket.Ticket.{Ticket}
use Rattle.bh_base.specs.declared.ticket.TicketState.{TicketState}
use Rattle.bh_base.specs.declared.ticket.TicketState.TheVariants as ticket
use Rattle.bh_base.specs.declared.step.Request.{Request}
use Rattle.bh_base.specs.declared.step.Op.{Op}
use Rattle.bh_base.specs.declared.step.Op.TheVariants as op
use Rattle.bh_base.specs.declared.circuit.Admit.{Admit}
use Rattle.bh_base.specs.declared.circuit.Admit.TheVariants as admit
use Rattle.bh_base.specs.declared.reply.Cause.TheVariants as cause
use Rattle.bh_base.specs.declared.circuit.End.{End}
use Rattle.bh_base.specs.declared.event.EventKind.{EventKind}
use Rattle.bh_base.specs.declared.step.FallbackEnd.{FallbackEnd}
use Rattle.bh_base.specs.declared.event.Rolling.{Rolling}
use Rattle.bh_base.specs.Circuit.{Asked, asked}
use Rattle.bh_base.specs.Tickets.{changed_first, is_running, is_kept, is_cached_in, in_state}
use Rattle.bh_base.specs.Commands.{props_of, is_known}
use Rattle.bh_base.specs.Tunings.{is_within}
use Rattle.bh_base.specs.Machine.{circuit_of, with_circuit, Present, Outcome, outcome, placed, admitted, rejected, is_admitted, circuit_said, circuit_asked, submitted, started, run_ended, collected, collected_in, fallback_done, fallback_done_in, cached_as, free_count, in_fallback_count, is_due}
use Rattle.bh_base.specs.Runs.{State, stepped, begun, outcome_in, is_worn}
use Rattle.bh_base.specs.Order.{Rise, IsRising, SerialsRise}

abbrev Rises : Present → Type 0
Rises g = Rise 1 g.tickets g.serial

lower : (from lower_from next : ℕ) (ts : List Ticket) → lower_from ≤ from → Rise from ts next → Rise lower_from ts next
lower from lower_from next [] below rise = omega (arith, below, rise)
lower from lower_from next (t ∷ ts) below rise = (omega (arith, below, rise.0), rise.1)

rise_changed : (p : Ticket → Bool) (f : Ticket → Ticket) → ((t : Ticket) → (f t).serial ≡ t.serial) → (from next : ℕ) (ts : List Ticket) → Rise from ts next → Rise from (changed_first p f ts) next
rise_changed p f same from next [] rise = rise
rise_changed p f same from next (t ∷ ts) rise = at (p t) (rise_changed p f same (t.serial + 1) next ts rise.1)
  where
    at : (b : Bool) → Rise (t.serial + 1) (changed_first p f ts) next → Rise from (if b then f t ∷ ts else t ∷ changed_first p f ts) next
    at true later = (omega (arith, rise.0, same t), subst (λ n. Rise (n + 1) ts next) (sym (same t)) rise.1)
    at false later = (rise.0, later)

rise_mapped : (f : Ticket → Ticket) → ((t : Ticket) → (f t).serial ≡ t.serial) → (from next : ℕ) (ts : List Ticket) → Rise from ts next → Rise from (map f ts) next
rise_mapped f same from next [] rise = rise
rise_mapped f same from next (t ∷ ts) rise =
    (omega (arith, rise.0, same t), subst (λ n. Rise (n + 1) (map f ts) next) (sym (same t)) (rise_mapped f same (t.serial + 1) next ts rise.1))

rise_filtered : (p : Ticket → Bool) (from next : ℕ) (ts : List Ticket) → Rise from ts next → Rise from (filter p ts) next
rise_filtered p from next [] rise = rise
rise_filtered p from next (t ∷ ts) rise = at (p t) (rise_filtered p (t.serial + 1) next ts rise.1)
  where
    at : (b : Bool) → Rise (t.serial + 1) (filter p ts) next → Rise from (cond b (t ∷ filter p ts) (filter p ts)) next
    at true later = (rise.0, later)
    at false later = lower (t.serial + 1) from next (filter p ts) (omega (arith, rise.0)) later

rise_added : (t : Ticket) (from next : ℕ) (ts : List Ticket) → t.serial ≡ next → Rise from ts next → Rise from (ts ++ t ∷ []) (next + 1)
rise_added t from next [] is rise = (omega (arith, is, rise), omega (arith, is))
rise_added t from next (u ∷ ts) is rise = (rise.0, rise_added t (u.serial + 1) next ts is rise.1)

same_if : (b : Bool) (f : Ticket → Ticket) (t : Ticket) → (f t).serial ≡ t.serial → (if b then f t else t).serial ≡ t.serial
same_if true f t e = e
same_if false f t e = refl

either : (b : Bool) (x y : Outcome) → Rises x.present → Rises y.present → Rises (if b then x else y).present
either true x y p q = p
either false x y p q = q

admitted_rise : (s : Strategy) (request : Request) (test : Bool) (g : Present) → Rises g → Rises (admitted s request test g).present
admitted_rise strategy.Semaphore request test g rise = rise_added _ 1 g.serial g.tickets refl rise
admitted_rise strategy.Thread request test g rise = rise_added _ 1 g.serial g.tickets refl rise

rejected_rise : (s : Strategy) (request : Request) (test : Bool) (g : Present) → Rises g → Rises (rejected s request test g).present
rejected_rise strategy.Semaphore request test g rise = rise_added _ 1 g.serial g.tickets refl rise
rejected_rise strategy.Thread request test g rise = rise_added _ 1 g.serial g.tickets refl rise

placed_rise : (request : Request) (test : Bool) (g : Present) → Rises g → Rises (placed request test g).present
placed_rise request test g rise = either (is_admitted g request.command (props_of request.command g.props).strategy) _ _ (admitted_rise (props_of request.command g.props).strategy request test g rise) (rejected_rise (props_of request.command g.props).strategy request test g rise)

said_rise : (a : Admit) (request : Request) (g : Present) → Rises g → Rises (circuit_said a request g).present
said_rise admit.Short request g rise = rise_added _ 1 g.serial g.tickets refl rise
said_rise admit.Test request g rise = placed_rise request true g rise
said_rise admit.Pass request g rise = placed_rise request false g rise

asked_rise : (a : Asked) (request : Request) (g : Present) → Rises g → Rises (circuit_asked a request g).present
asked_rise a request g rise = said_rise a.says request (with_circuit request.command a.circuit g) rise

submitted_rise : (t : Option Ticket) (request : Request) (rolling : Rolling) (g : Present) → Rises g → Rises (submitted t request rolling g).present
submitted_rise (Some t) request rolling g rise = rise_changed _ _ (λ u. refl) 1 g.serial g.tickets rise
submitted_rise None request rolling g rise = either (free_count g == 0) _ _ rise (asked_rise (asked (props_of request.command g.props) g.latest rolling.health g.serial (circuit_of request.command g)) request g rise)

started_rise : (t : Option Ticket) (g : Present) → Rises g → Rises (started t g).present
started_rise None g rise = rise
started_rise (Some t) g rise = rise_changed _ _ (λ u. refl) 1 g.serial g.tickets rise

run_rise : (t : Option Ticket) (n : ℕ) (s : TicketState) (e : End) (k : EventKind) (g : Present) → Rises g → Rises (run_ended t n s e k g).present
run_rise None n s e k g rise = rise
run_rise (Some t) n s e k g rise = either (is_running t) _ _ (rise_changed _ _ (λ u. refl) 1 g.serial g.tickets rise) (rise_changed _ _ (λ u. refl) 1 g.serial g.tickets rise)

collected_rise : (t : Option Ticket) (n : ℕ) (g : Present) → Rises g → Rises (collected t n g).present
collected_rise None n g rise = rise
collected_rise (Some t) n g rise = at t.state
  where
    at : (s : TicketState) → Rises (collected_in s t.command n g).present
    at (ticket.Answered a) = rise_changed _ _ (λ u. refl) 1 g.serial g.tickets rise
    at (ticket.NeedsFallback c) =
        either (not (props_of t.command g.props).fallback_on) _ _ (rise_changed _ _ (λ u. refl) 1 g.serial g.tickets rise)
        (either (nat_le (props_of t.command g.props).fallback_permits (in_fallback_count t.command g)) _ _ (rise_changed _ _ (λ u. refl) 1 g.serial g.tickets rise) (rise_changed _ _ (λ u. refl) 1 g.serial g.tickets rise))
    at ticket.Queued = rise
    at ticket.Running = rise
    at (ticket.InFallback c) = rise

fallback_rise : (t : Option Ticket) (n : ℕ) (e : FallbackEnd) (g : Present) → Rises g → Rises (fallback_done t n e g).present
fallback_rise None n e g rise = rise
fallback_rise (Some t) n e g rise = at t.state
  where
    at : (s : TicketState) → Rises (fallback_done_in s t.command n e g).present
    at (ticket.InFallback c) = rise_changed _ _ (λ u. refl) 1 g.serial g.tickets rise
    at (ticket.Answered a) = rise
    at (ticket.NeedsFallback c) = rise
    at ticket.Queued = rise
    at ticket.Running = rise

outcome_rise : (o : Op) (rolling : ℕ → Rolling) (g : Present) → Rises g → Rises (outcome o rolling g).present
outcome_rise (op.Submit request) rolling g rise = submitted_rise (cached_as request.command request.cache g) request (rolling request.command) g rise
outcome_rise op.Start rolling g rise = started_rise _ g rise
outcome_rise (op.Finish serial body) rolling g rise = run_rise _ _ _ _ _ g rise
outcome_rise (op.Fail serial true) rolling g rise = run_rise _ _ _ _ _ g rise
outcome_rise (op.Fail serial false) rolling g rise = run_rise _ _ _ _ _ g rise
outcome_rise op.Expire rolling g rise = rise_mapped _ (λ t. same_if (is_due g t) (in_state (ticket.NeedsFallback cause.Timeout)) t refl) 1 g.serial g.tickets rise
outcome_rise (op.Collect serial) rolling g rise = collected_rise _ _ g rise
outcome_rise (op.FallbackDone serial e) rolling g rise = fallback_rise _ _ e g rise
outcome_rise (op.Close context) rolling g rise = rise_mapped _ (λ t. same_if (is_cached_in context t) (λ t. record t { cached = false }) t refl) 1 g.serial g.tickets rise
outcome_rise (op.Read command) rolling g rise = rise
outcome_rise (op.Totals command) rolling g rise = rise
outcome_rise (op.Tune command t) rolling g rise = either (is_within t) _ _ rise rise

-- a new group's tickets stand by rising serial, and each step keeps them so
pub serials_rise : SerialsRise
serials_rise = record {
  opened = λ props limit. omega arith;
  stepped = λ s o now rise. at s o now (is_known o s.present.props) (is_worn s.present) rise;
}
  where
    at : (s : State) (o : Op) (now : ℕ) (known worn : Bool) → IsRising s → IsRising (stepped known worn s (outcome_in s o now)).state
    at s o now false worn rise = rise
    at s o now true true rise = rise
    at s o now true false rise = rise_filtered is_kept 1 _ _ (outcome_rise o _ (begun now s.present) rise)
