-- A step ends no other wait than those that it is said to end.
use Rattle.std.proofs.Common.{◌≡◌, ℕ, ◌+◌, ◌<◌, Bool, true, false, not, cond, List, [], ◌∷◌, ◌++◌, map, filter, Option, Some, None, refl, arith, sym, ap, ◌∙◌, subst}
use Rattle.std.specs.Prelude.{◌==◌, ◌&&◌, ◌||◌, nat_lt, nat_le, find, if◌then◌else◌}
use Rattle.std.proofs.lemmas.Bool.Decides.{nat_tests}
use Rattle.bh_base.specs.declared.props.Strategy.{Strategy}
use Rattle.bh_base.specs.declared.props.Strategy.TheVariants as strategy
use Rattle.bh_base.specs.declared.ticket.Ticket.{Ticket}
use Rattle.bh_base.specs.declared.ticket.TicketState.{TicketState}
use Rattle.bh_base.specs.declared.ticket.TicketState.TheVariants as ticket
use Rattle.bh_base.specs.declared.reply.Reply.TheVariants as reply
use Rattle.bh_base.specs.declared.step.FallbackEnd.{FallbackEnd}
use Rattle.bh_base.specs.declared.step.Request.{Request}
use Rattle.bh_base.specs.declared.step.Op.{Op}
use Rattle.bh_base.specs.declared.step.Op.TheVariants as op
use Rattle.bh_base.specs.declared.circuit.Admit.{Admit}
use Rattle.bh_base.specs.declared.circuit.Admit.TheVariants as admit
use Rattle.bh_base.specs.declared.circuit.End.{End}
use Rattle.bh_base.specs.declared.event.EventKind.{EventKind}
use Rattle.bh_base.specs.declared.event.Rolling.{Rolling}
use Rattle.bh_base.specs.Circuit.{Asked, asked}
use Rattle.bh_base.specs.Commands.{is_known, props_of}
use Rattle.bh_base.specs.Tunings.{is_within}
use Rattle.bh_base.specs.Machine.{Present, Outcome, admitted, cached_as, circuit_asked, circuit_of, circuit_said, with_circuit, collected, collected_in, fallback_done, fallback_done_in, free_count, in_fallback_count, is_admitted, outcome, placed, rejected, run_ended, started, submitted}
use Rattle.bh_base.specs.Order.{Rise}
use Rattle.bh_base.specs.Runs.{View, begun, is_worn}
use Rattle.bh_base.specs.Seen.{past_view_of, past_view_rolling, view_after, view_outcome, view_recorded, view_reply}
use Rattle.bh_base.specs.Tickets.{changed_first, in_state, is_busy_at, is_cached_in, is_held_at, is_in_fallback_at, is_kept, is_queued, is_running, is_unanswered}
use Rattle.bh_core.specs.Looks.{is_assigned, is_pending, is_worn_out}
use Rattle.bh_core.proofs.Looks.{collect_seen, unheld_not_pending}
use Rattle.bh_audit.specs.declared.freed.Freed.{Freed}
use Rattle.bh_core.specs.CoreView.{CoreView, view_at}
use Rattle.bh_core.specs.Step.{IsStep}
use Rattle.bh_base.specs.declared.step.Step.{Step}
use Rattle.bh_base.specs.declared.reply.Reply.{Reply}
use Rattle.bh_audit.specs.Waking.{IsEverybody, KeepsWakeUps, LosesNoWakeUp, frees_by, frees_caller, frees_one, is_told_again}
use Rattle.bh_audit.proofs.Lists.{one_item}

-- whether a holder of the serial has to wait
abbrev pend : ℕ → List Ticket → Bool
pend serial [] = false
pend serial (t ∷ ts) = cond (is_held_at serial t) (is_unanswered t) (pend serial ts)

-- one changed ticket

pend_changed : (serial : ℕ) (p : Ticket → Bool) (f : Ticket → Ticket) → ((t : Ticket) (rest : Bool) → p t ≡ true → cond (is_held_at serial t) (is_unanswered t) rest ≡ true → cond (is_held_at serial (f t)) (is_unanswered (f t)) rest ≡ true) → (ts : List Ticket) → pend serial ts ≡ true → pend serial (changed_first p f ts) ≡ true
pend_changed serial p f keeps [] h = h
pend_changed serial p f keeps (t ∷ ts) h = at (p t) refl (pend_changed serial p f keeps ts)
  where
    later : (held : Bool) → (pend serial ts ≡ true → pend serial (changed_first p f ts) ≡ true) → cond held (is_unanswered t) (pend serial ts) ≡ true → cond held (is_unanswered t) (pend serial (changed_first p f ts)) ≡ true
    later true ih k = k
    later false ih k = ih k

    at : (b : Bool) → p t ≡ b → (pend serial ts ≡ true → pend serial (changed_first p f ts) ≡ true) → pend serial (if b then f t ∷ ts else t ∷ changed_first p f ts) ≡ true
    at true is ih = keeps t (pend serial ts) is h
    at false is ih = later (is_held_at serial t) ih h

-- a ticket of another serial

left_of : (a b : Bool) → (a && b) ≡ true → a ≡ true
left_of true b is = refl
left_of false b is = absurd cc

not_held : (s serial : ℕ) (t : Ticket) → (s == serial) ≡ false → (t.serial == s) ≡ true → is_held_at serial t ≡ false
not_held s serial t differs is =
    let other : (t.serial == serial) ≡ false = grind (arith, nat_tests) in
    ap (λ b. b && nat_lt 0 t.holders) other

passed_over : (held held' u u' rest : Bool) → held ≡ false → held' ≡ false → cond held u rest ≡ true → cond held' u' rest ≡ true
passed_over false false u u' rest a b k = k
passed_over true held' u u' rest a b k = absurd cc
passed_over false true u u' rest a b k = absurd cc

pend_other : (s serial : ℕ) (p : Ticket → Bool) (f : Ticket → Ticket) → (s == serial) ≡ false → ((t : Ticket) → p t ≡ true → (t.serial == s) ≡ true) → ((t : Ticket) → (f t).serial ≡ t.serial) → (ts : List Ticket) → pend serial ts ≡ true → pend serial (changed_first p f ts) ≡ true
pend_other s serial p f differs of same =
    pend_changed serial p f (λ t rest is k.
    let moved : ((f t).serial == s) ≡ true = subst (λ n. (n == s) ≡ true) (sym (same t)) (of t is) in
    passed_over (is_held_at serial t) (is_held_at serial (f t)) (is_unanswered t) (is_unanswered (f t)) rest
    (not_held s serial t differs (of t is)) (not_held s serial (f t) differs moved) k)

-- a run that starts

starts_waiting : (t : Ticket) (serial : ℕ) (rest : Bool) → cond (is_held_at serial t) (is_unanswered t) rest ≡ true → cond (is_held_at serial t) true rest ≡ true
starts_waiting t serial rest = at (is_held_at serial t)
  where
    at : (b : Bool) → cond b (is_unanswered t) rest ≡ true → cond b true rest ≡ true
    at true k = refl
    at false k = k

pend_started : (found : Option Ticket) (g : Present) (serial : ℕ) → pend serial g.tickets ≡ true → pend serial (started found g).present.tickets ≡ true
pend_started None g serial h = h
pend_started (Some t) g serial h =
    pend_changed serial is_queued (λ t. record t { state = ticket.Running; busy = true }) (λ t rest is k. starts_waiting t serial rest k) g.tickets h

-- a run or a fallback that ends, of another serial

either : (serial : ℕ) (b : Bool) (x y : Outcome) → pend serial x.present.tickets ≡ true → pend serial y.present.tickets ≡ true → pend serial (if b then x else y).present.tickets ≡ true
either serial true x y p q = p
either serial false x y p q = q

of_busy : (s : ℕ) (t : Ticket) → is_busy_at s t ≡ true → (t.serial == s) ≡ true
of_busy s t is = left_of (t.serial == s) t.busy is

run_keeps : (found : Option Ticket) (s : ℕ) (state : TicketState) (e : End) (event : EventKind) (g : Present) (serial : ℕ) → (s == serial) ≡ false → pend serial g.tickets ≡ true → pend serial (run_ended found s state e event g).present.tickets ≡ true
run_keeps None s state e event g serial differs h = h
run_keeps (Some t) s state e event g serial differs h =
    either serial (is_running t) _ _
    (pend_other s serial (is_busy_at s) (λ t. record t { state = state; busy = false }) differs (of_busy s) (λ u. refl) g.tickets h)
    (pend_other s serial (is_busy_at s) (λ t. record t { busy = false }) differs (of_busy s) (λ u. refl) g.tickets h)

fallback_keeps : (found : Option Ticket) (s : ℕ) (e : FallbackEnd) (g : Present) (serial : ℕ) → (s == serial) ≡ false → pend serial g.tickets ≡ true → pend serial (fallback_done found s e g).present.tickets ≡ true
fallback_keeps None s e g serial differs h = h
fallback_keeps (Some t) s e g serial differs h = at t.state
  where
    at : (state : TicketState) → pend serial (fallback_done_in state t.command s e g).present.tickets ≡ true
    at (ticket.InFallback c) = pend_other s serial (is_in_fallback_at s) _ differs (λ t is. left_of _ _ is) (λ u. refl) g.tickets h
    at (ticket.Answered a) = h
    at (ticket.NeedsFallback c) = h
    at ticket.Queued = h
    at ticket.Running = h

-- a new ticket, behind the others

pend_added : (serial : ℕ) (u : Ticket) (ts : List Ticket) → pend serial ts ≡ true → pend serial (ts ++ u ∷ []) ≡ true
pend_added serial u [] h = absurd cc
pend_added serial u (t ∷ ts) h = at (is_held_at serial t) (pend_added serial u ts) h
  where
    at : (b : Bool) → (pend serial ts ≡ true → pend serial (ts ++ u ∷ []) ≡ true) → cond b (is_unanswered t) (pend serial ts) ≡ true → cond b (is_unanswered t) (pend serial (ts ++ u ∷ [])) ≡ true
    at true ih k = k
    at false ih k = ih k

-- a ticket that is joined: no other ticket has its serial

none_above : (serial from next : ℕ) (ts : List Ticket) → serial < from → Rise from ts next → pend serial ts ≡ false
none_above serial from next [] above rise = refl
none_above serial from next (t ∷ ts) above rise =
    let other : (t.serial == serial) ≡ false = grind (arith, nat_tests, rise.0) in
    let later : serial < t.serial + 1 = omega (arith, above, rise.0) in
    ap (λ b. cond (b && nat_lt 0 t.holders) (is_unanswered t) (pend serial ts)) other ∙ none_above serial (t.serial + 1) next ts later rise.1

has_holder : (n : ℕ) → nat_lt 0 (n + 1) ≡ true
has_holder n = grind (arith, nat_tests)

abbrev joined : Ticket → Ticket
joined u = record u { holders = u.holders + 1 }

joins : (e held : Bool) (t : Ticket) (rest : Bool) → (e ≡ true → held ≡ false → rest ≡ true → ⊥) → cond (e && held) (is_unanswered t) rest ≡ true → cond (e && true) (is_unanswered t) rest ≡ true
joins true true t rest only k = k
joins true false t rest only k = absurd (only refl refl k)
joins false held t rest only k = k

pend_joined : (p : Ticket → Bool) (serial from next : ℕ) (ts : List Ticket) → Rise from ts next → pend serial ts ≡ true → pend serial (changed_first p joined ts) ≡ true
pend_joined p serial from next [] rise h = h
pend_joined p serial from next (t ∷ ts) rise h = at (p t) (pend_joined p serial (t.serial + 1) next ts rise.1)
  where
    only : (t.serial == serial) ≡ true → nat_lt 0 t.holders ≡ false → pend serial ts ≡ true → ⊥
    only is free k =
        let above : serial < t.serial + 1 = grind (arith, nat_tests) in
        let both : true ≡ false = sym k ∙ none_above serial (t.serial + 1) next ts above rise.1 in cc

    later : (held : Bool) → (pend serial ts ≡ true → pend serial (changed_first p joined ts) ≡ true) → cond held (is_unanswered t) (pend serial ts) ≡ true → cond held (is_unanswered t) (pend serial (changed_first p joined ts)) ≡ true
    later true ih k = k
    later false ih k = ih k

    at : (b : Bool) → (pend serial ts ≡ true → pend serial (changed_first p joined ts) ≡ true) → pend serial (if b then joined t ∷ ts else t ∷ changed_first p joined ts) ≡ true
    at true ih =
        subst (λ b. cond ((t.serial == serial) && b) (is_unanswered t) (pend serial ts) ≡ true) (sym (has_holder t.holders))
        (joins (t.serial == serial) (nat_lt 0 t.holders) t (pend serial ts) only h)
    at false ih = later (is_held_at serial t) ih h

-- a submit

admitted_keeps : (s : Strategy) (request : Request) (test : Bool) (g : Present) (serial : ℕ) → pend serial g.tickets ≡ true → pend serial (admitted s request test g).present.tickets ≡ true
admitted_keeps strategy.Semaphore request test g serial h = pend_added serial _ g.tickets h
admitted_keeps strategy.Thread request test g serial h = pend_added serial _ g.tickets h

rejected_keeps : (s : Strategy) (request : Request) (test : Bool) (g : Present) (serial : ℕ) → pend serial g.tickets ≡ true → pend serial (rejected s request test g).present.tickets ≡ true
rejected_keeps strategy.Semaphore request test g serial h = pend_added serial _ g.tickets h
rejected_keeps strategy.Thread request test g serial h = pend_added serial _ g.tickets h

placed_keeps : (request : Request) (test : Bool) (g : Present) (serial : ℕ) → pend serial g.tickets ≡ true → pend serial (placed request test g).present.tickets ≡ true
placed_keeps request test g serial h = either serial (is_admitted g request.command (props_of request.command g.props).strategy) _ _ (admitted_keeps (props_of request.command g.props).strategy request test g serial h) (rejected_keeps (props_of request.command g.props).strategy request test g serial h)

said_keeps : (a : Admit) (request : Request) (g : Present) (serial : ℕ) → pend serial g.tickets ≡ true → pend serial (circuit_said a request g).present.tickets ≡ true
said_keeps admit.Short request g serial h = pend_added serial _ g.tickets h
said_keeps admit.Test request g serial h = placed_keeps request true g serial h
said_keeps admit.Pass request g serial h = placed_keeps request false g serial h

asked_keeps : (a : Asked) (request : Request) (g : Present) (serial : ℕ) → pend serial g.tickets ≡ true → pend serial (circuit_asked a request g).present.tickets ≡ true
asked_keeps a request g serial h = said_keeps a.says request (with_circuit request.command a.circuit g) serial h

submitted_keeps : (t : Option Ticket) (request : Request) (rolling : Rolling) (g : Present) (serial next : ℕ) → Rise 1 g.tickets next → pend serial g.tickets ≡ true → pend serial (submitted t request rolling g).present.tickets ≡ true
submitted_keeps (Some t) request rolling g serial next rise h = pend_joined _ serial 1 next g.tickets rise h
submitted_keeps None request rolling g serial next rise h = either serial (free_count g == 0) _ _ h (asked_keeps (asked (props_of request.command g.props) g.latest rolling.health g.serial (circuit_of request.command g)) request g serial h)

-- a collect

pend_found : (serial : ℕ) (ts : List Ticket) (t : Ticket) → find (is_held_at serial) ts ≡ Some t → pend serial ts ≡ is_unanswered t
pend_found serial [] t is = absurd cc
pend_found serial (u ∷ ts) t is = at (is_held_at serial u) (pend_found serial ts t) is
  where
    at : (b : Bool) → (find (is_held_at serial) ts ≡ Some t → pend serial ts ≡ is_unanswered t) → cond b (Some u) (find (is_held_at serial) ts) ≡ Some t → cond b (is_unanswered u) (pend serial ts) ≡ is_unanswered t
    at true ih k = let same : u ≡ t = cc in ap is_unanswered same
    at false ih k = ih k

pend_missing : (serial : ℕ) (ts : List Ticket) → find (is_held_at serial) ts ≡ None → pend serial ts ≡ false
pend_missing serial [] is = refl
pend_missing serial (u ∷ ts) is = at (is_held_at serial u) (pend_missing serial ts) is
  where
    at : (b : Bool) → (find (is_held_at serial) ts ≡ None → pend serial ts ≡ false) → cond b (Some u) (find (is_held_at serial) ts) ≡ None → cond b (is_unanswered u) (pend serial ts) ≡ false
    at true ih k = absurd cc
    at false ih k = ih k

same_serial : (s serial : ℕ) → (s == serial) ≡ true → s ≡ serial
same_serial s serial is = grind (arith, nat_tests)

collect_keeps : (found : Option Ticket) (s : ℕ) (g : Present) (serial : ℕ) → find (is_held_at s) g.tickets ≡ found → pend serial g.tickets ≡ true → pend serial (collected found s g).present.tickets ≡ true
collect_keeps None s g serial is h = h
collect_keeps (Some t) s g serial is h = by (s == serial) refl
  where
    another : (s == serial) ≡ false → (state : TicketState) → pend serial (collected_in state t.command s g).present.tickets ≡ true
    another differs (ticket.Answered a) = pend_other s serial (is_held_at s) _ differs (λ t is. left_of _ _ is) (λ u. refl) g.tickets h
    another differs (ticket.NeedsFallback c) =
        either serial (not (props_of t.command g.props).fallback_on) _ _ (pend_other s serial (is_held_at s) _ differs (λ t is. left_of _ _ is) (λ u. refl) g.tickets h)
        (either serial (nat_le (props_of t.command g.props).fallback_permits (in_fallback_count t.command g)) _ _ (pend_other s serial (is_held_at s) _ differs (λ t is. left_of _ _ is) (λ u. refl) g.tickets h)
        (pend_other s serial (is_held_at s) _ differs (λ t is. left_of _ _ is) (λ u. refl) g.tickets h))
    another differs ticket.Queued = h
    another differs ticket.Running = h
    another differs (ticket.InFallback c) = h

    own : (state : TicketState) → is_unanswered (in_state state t) ≡ true → pend serial (collected_in state t.command s g).present.tickets ≡ true
    own (ticket.Answered a) waits = absurd cc
    own (ticket.NeedsFallback c) waits = absurd cc
    own ticket.Queued waits = h
    own ticket.Running waits = h
    own (ticket.InFallback c) waits = h

    by : (b : Bool) → (s == serial) ≡ b → pend serial (collected_in t.state t.command s g).present.tickets ≡ true
    by true e = own t.state (sym (pend_found s g.tickets t is) ∙ ap (λ n. pend n g.tickets) (same_serial s serial e) ∙ h)
    by false e = another e t.state

-- a close

closed_one : (b : Bool) (t : Ticket) (serial : ℕ) (rest : Bool) → cond (is_held_at serial t) (is_unanswered t) rest ≡ cond (is_held_at serial (if b then record t { cached = false } else t)) (is_unanswered (if b then record t { cached = false } else t)) rest
closed_one true t serial rest = refl
closed_one false t serial rest = refl

pend_closed : (context serial : ℕ) (ts : List Ticket) → pend serial ts ≡ pend serial (map (λ t. if is_cached_in context t then record t { cached = false } else t) ts)
pend_closed context serial [] = refl
pend_closed context serial (t ∷ ts) =
    ap (λ rest. cond (is_held_at serial t) (is_unanswered t) rest) (pend_closed context serial ts)
    ∙ closed_one (is_cached_in context t) t serial _

-- the cases of all operations

outcome_keeps : (o : Op) (rolling : ℕ → Rolling) (g : Present) (serial next : ℕ) → frees_caller (frees_by o) serial ≡ false → Rise 1 g.tickets next → pend serial g.tickets ≡ true → pend serial (outcome o rolling g).present.tickets ≡ true
outcome_keeps (op.Submit request) rolling g serial next other rise h = submitted_keeps (cached_as request.command request.cache g) request (rolling request.command) g serial next rise h
outcome_keeps op.Start rolling g serial next other rise h = pend_started _ g serial h
outcome_keeps (op.Finish s body) rolling g serial next other rise h = run_keeps _ _ _ _ _ g serial other h
outcome_keeps (op.Fail s true) rolling g serial next other rise h = run_keeps _ _ _ _ _ g serial other h
outcome_keeps (op.Fail s false) rolling g serial next other rise h = run_keeps _ _ _ _ _ g serial other h
outcome_keeps op.Expire rolling g serial next other rise h = absurd cc
outcome_keeps (op.Collect s) rolling g serial next other rise h = collect_keeps _ s g serial refl h
outcome_keeps (op.FallbackDone s e) rolling g serial next other rise h = fallback_keeps _ _ e g serial other h
outcome_keeps (op.Close context) rolling g serial next other rise h = sym (pend_closed context serial g.tickets) ∙ h
outcome_keeps (op.Read command) rolling g serial next other rise h = h
outcome_keeps (op.Totals command) rolling g serial next other rise h = h
outcome_keeps (op.Tune command t) rolling g serial next other rise h = either serial (is_within t) _ _ h h

-- tickets that are released have no holder

unkept : (busy held cached e : Bool) → (busy || held || cached) ≡ false → (e && held) ≡ false
unkept true held cached e is = absurd cc
unkept false true cached e is = absurd cc
unkept false false cached true is = refl
unkept false false cached false is = refl

pend_released : (serial : ℕ) (ts : List Ticket) → pend serial (filter is_kept ts) ≡ pend serial ts
pend_released serial [] = refl
pend_released serial (t ∷ ts) = at (is_kept t) refl (pend_released serial ts)
  where
    at : (b : Bool) → is_kept t ≡ b → pend serial (filter is_kept ts) ≡ pend serial ts → pend serial (cond b (t ∷ filter is_kept ts) (filter is_kept ts)) ≡ pend serial (t ∷ ts)
    at true is ih = ap (λ rest. cond (is_held_at serial t) (is_unanswered t) rest) ih
    at false is ih = ih ∙ sym (ap (λ b. cond b (is_unanswered t) (pend serial ts)) (unkept t.busy (nat_lt 0 t.holders) t.cached (t.serial == serial) is))

-- a whole step

pend_seen : (v : View) (serial m : ℕ) → is_worn v.present ≡ false → pend serial v.present.tickets ≡ is_pending (view_reply v (op.Collect serial) m)
pend_seen v serial m fresh = at (find (is_held_at serial) v.present.tickets) refl
  where
    at : (found : Option Ticket) → find (is_held_at serial) v.present.tickets ≡ found → pend serial v.present.tickets ≡ is_pending (view_reply v (op.Collect serial) m)
    at None is = pend_missing serial v.present.tickets is ∙ unheld_not_pending v serial m fresh is
    at (Some t) is = pend_found serial v.present.tickets t is ∙ collect_seen v serial m t fresh is

-- a caller that waits before a step, and is not among those that the step is said to free, waits after it
pub still_waits : (v : View) (o : Op) (now serial next m m' : ℕ) → is_worn (view_after v o now).present ≡ false → frees_caller (frees_by o) serial ≡ false → Rise 1 v.present.tickets next → is_pending (view_reply v (op.Collect serial) m) ≡ true → is_pending (view_reply (view_after v o now) (op.Collect serial) m') ≡ true
still_waits v o now serial next m m' fresh' other rise h = by (is_worn v.present) refl
  where
    after : (known : Bool) → is_worn v.present ≡ false → pend serial (if known then (if is_worn v.present then v else view_recorded v (view_outcome v o now)) else v).present.tickets ≡ true
    after false fresh = pend_seen v serial m fresh ∙ h
    after true fresh =
        let there : (if is_worn v.present then v else view_recorded v (view_outcome v o now)).present.tickets ≡ filter is_kept (view_outcome v o now).present.tickets = ap (λ b. (if b then v else view_recorded v (view_outcome v o now)).present.tickets) fresh in
        let waits : pend serial v.present.tickets ≡ true = pend_seen v serial m fresh ∙ h in
        ap (pend serial) there ∙ pend_released serial _ ∙ outcome_keeps o (λ command. past_view_rolling v.present.latest (past_view_of command v) (begun now v.present).latest) (begun now v.present) serial next other rise waits

    by : (b : Bool) → is_worn v.present ≡ b → is_pending (view_reply (view_after v o now) (op.Collect serial) m') ≡ true
    by true worn =
        let both : false ≡ true = sym (ap (λ b. is_pending (if b then reply.Worn else (view_outcome v (op.Collect serial) m).reply)) worn) ∙ h in absurd cc
    by false fresh = sym (pend_seen (view_after v o now) serial m' fresh') ∙ after (is_known o v.present.props) fresh

-- whom the code says to free, where the group is not worn after the step, is enough
pub frees_enough : (v : View) (o : Op) (now serial next m m' : ℕ) → is_worn (view_after v o now).present ≡ false → Rise 1 v.present.tickets next → is_pending (view_reply v (op.Collect serial) m) ≡ true → is_pending (view_reply (view_after v o now) (op.Collect serial) m') ≡ false → frees_caller (frees_by o) serial ≡ true
frees_enough v o now serial next m m' fresh rise before after = at (frees_caller (frees_by o) serial) refl
  where
    at : (b : Bool) → frees_caller (frees_by o) serial ≡ b → b ≡ true
    at true is = refl
    at false is = let both : true ≡ false = sym (still_waits v o now serial next m m' fresh is rise before) ∙ after in absurd cc

-- a look that says whether the group is worn
pub worn_look : (v : View) (look : Bool) → ((o : Op) (moment : ℕ) → is_known o v.present.props ≡ true → look ≡ is_worn_out (view_reply v o moment)) → look ≡ is_worn v.present
worn_look v look says = says (op.Close 0) 0 refl ∙ at (is_worn v.present)
  where
    at : (worn : Bool) → is_worn_out (if worn then reply.Worn else (view_outcome v (op.Close 0) 0).reply) ≡ worn
    at true = refl
    at false = refl

-- what a look before the step and two looks after it say is enough
pub loses_none : (v : View) (o : Op) (now : ℕ) (f : Freed) (was : Bool) → ((m : ℕ) → was ≡ is_assigned (view_reply v op.Start m)) → ((m : ℕ) → was ≡ false → is_assigned (view_reply (view_after v o now) op.Start m) ≡ true → frees_one f.workers ≡ true) → ((m : ℕ) → is_told_again o ≡ true → is_assigned (view_reply (view_after v o now) op.Start m) ≡ true → frees_one f.workers ≡ true) → (is_worn (view_after v o now).present ≡ true → IsEverybody f) → (is_worn (view_after v o now).present ≡ false → f.callers ≡ frees_by o) → LosesNoWakeUp v o (view_after v o now) f
loses_none v o now f was look worker next_worker worn fresh = record {
  worker = λ m m' before after. worker m' (look m ∙ before) after;
  next_worker = next_worker;
  caller = λ serial next m m' rise before after. at serial next m m' rise before after (is_worn (view_after v o now).present) refl;
  worn = worn;
}
  where
    at : (serial next m m' : ℕ) → Rise 1 v.present.tickets next → is_pending (view_reply v (op.Collect serial) m) ≡ true → is_pending (view_reply (view_after v o now) (op.Collect serial) m') ≡ false → (b : Bool) → is_worn (view_after v o now).present ≡ b → frees_caller f.callers serial ≡ true
    at serial next m m' rise before after true is = ap (λ c. frees_caller c serial) (worn is).callers
    at serial next m m' rise before after false is = ap (λ c. frees_caller c serial) (fresh is) ∙ frees_enough v o now serial next m m' is rise before after

-- so no wake-up is lost in the group of the step
pub keeps_wake_ups : (old new : CoreView) (x : Step) (r : Reply) (f : Freed) (was : Bool) → IsStep old x r new → ((v : View) (m : ℕ) → view_at old x.group.0 ≡ Some v → was ≡ is_assigned (view_reply v op.Start m))
    → ((w : View) (m : ℕ) → view_at new x.group.0 ≡ Some w → was ≡ false → is_assigned (view_reply w op.Start m) ≡ true → frees_one f.workers ≡ true)
    → ((w : View) (m : ℕ) → view_at new x.group.0 ≡ Some w → is_told_again x.op ≡ true → is_assigned (view_reply w op.Start m) ≡ true → frees_one f.workers ≡ true)
    → ((w : View) → view_at new x.group.0 ≡ Some w → is_worn w.present ≡ true → IsEverybody f) → ((w : View) → view_at new x.group.0 ≡ Some w → is_worn w.present ≡ false → f.callers ≡ frees_by x.op)
    → KeepsWakeUps old x.group x.op new f
keeps_wake_ups old new x r f was made look worker next_worker worn fresh v w at after =
    let there = (made.seen v at).1 in
    let same : view_after v x.op x.now ≡ w = one_item (view_at new x.group.0) (view_after v x.op x.now) w there after in
    let P : View → Type 0 = λ u. LosesNoWakeUp v x.op u f in
    subst P same (loses_none v x.op x.now f was (λ m. look v m at) (λ m. worker _ m there) (λ m. next_worker _ m there) (worn _ there) (fresh _ there))
