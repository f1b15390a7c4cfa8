-- The machine gives only replies that the operation can get.
use Rattle.std.proofs.Common.{◌≡◌, ℕ, Bool, true, false, ◌||◌, not, Option, Some, None, refl}
use Rattle.std.specs.Prelude.{◌==◌, nat_le, if◌then◌else◌}
use Rattle.bh_base.specs.declared.props.Strategy.{Strategy}
use Rattle.bh_base.specs.declared.props.Strategy.TheVariants as strategy
use Rattle.bh_base.specs.declared.ticket.Ticket.{Ticket}
use Rattle.bh_base.specs.declared.ticket.TicketState.{TicketState}
use Rattle.bh_base.specs.declared.ticket.TicketState.TheVariants as ticket
use Rattle.bh_base.specs.declared.step.Request.{Request}
use Rattle.bh_base.specs.declared.step.FallbackEnd.{FallbackEnd}
use Rattle.bh_base.specs.declared.step.Op.{Op}
use Rattle.bh_base.specs.declared.step.Op.TheVariants as op
use Rattle.bh_base.specs.declared.reply.Reply.{Reply}
use Rattle.bh_base.specs.declared.reply.Reply.TheVariants as reply
use Rattle.bh_base.specs.declared.circuit.Admit.{Admit}
use Rattle.bh_base.specs.declared.circuit.Admit.TheVariants as admit
use Rattle.bh_base.specs.declared.circuit.End.{End}
use Rattle.bh_base.specs.declared.event.EventKind.{EventKind}
use Rattle.bh_base.specs.declared.event.Rolling.{Rolling}
use Rattle.bh_base.specs.Circuit.{Asked, asked}
use Rattle.bh_base.specs.Tickets.{is_running}
use Rattle.bh_base.specs.Commands.{props_of, is_known}
use Rattle.bh_base.specs.Tunings.{is_within}
use Rattle.bh_base.specs.Machine.{circuit_of, with_circuit, Present, Outcome, outcome, is_admitted, admitted, rejected, placed, circuit_said, submitted, cached_as, free_count, started, run_ended, collected, collected_in, in_fallback_count, fallback_done, fallback_done_in}
use Rattle.bh_base.specs.Runs.{View, is_worn}
use Rattle.bh_base.specs.Seen.{view_outcome, view_reply}
use Rattle.bh_base.specs.Replies.{can_reply, is_answer_to, answers_submit, answers_start, answers_end, answers_collect, answers_fallback_done, answers_tune}

either : (b : Bool) (p : Reply → Bool) (x y : Outcome) → p x.reply ≡ true → p y.reply ≡ true → p (if b then x else y).reply ≡ true
either true p x y h k = h
either false p x y h k = k

admitted_answers : (s : Strategy) (request : Request) (test : Bool) (g : Present) → answers_submit (admitted s request test g).reply ≡ true
admitted_answers strategy.Semaphore request test g = refl
admitted_answers strategy.Thread request test g = refl

rejected_answers : (s : Strategy) (request : Request) (test : Bool) (g : Present) → answers_submit (rejected s request test g).reply ≡ true
rejected_answers strategy.Semaphore request test g = refl
rejected_answers strategy.Thread request test g = refl

placed_answers : (request : Request) (test : Bool) (g : Present) → answers_submit (placed request test g).reply ≡ true
placed_answers request test g =
    either (is_admitted g request.command (props_of request.command g.props).strategy) answers_submit _ _ (admitted_answers (props_of request.command g.props).strategy request test g) (rejected_answers (props_of request.command g.props).strategy request test g)

said_answers : (a : Admit) (request : Request) (g : Present) → answers_submit (circuit_said a request g).reply ≡ true
said_answers admit.Short request g = refl
said_answers admit.Test request g = placed_answers request true g
said_answers admit.Pass request g = placed_answers request false g

submitted_answers : (t : Option Ticket) (request : Request) (rolling : Rolling) (g : Present) → answers_submit (submitted t request rolling g).reply ≡ true
submitted_answers (Some t) request rolling g = refl
submitted_answers None request rolling g =
    let a : Asked = asked (props_of request.command g.props) g.latest rolling.health g.serial (circuit_of request.command g) in
    either (free_count g == 0) answers_submit _ _ refl (said_answers a.says request (with_circuit request.command a.circuit g))

ended_answers : (t : Option Ticket) (serial : ℕ) (s : TicketState) (e : End) (k : EventKind) (g : Present) → answers_end (run_ended t serial s e k g).reply ≡ true
ended_answers None serial s e k g = refl
ended_answers (Some t) serial s e k g = either (is_running t) answers_end _ _ refl refl

collected_answers : (t : Option Ticket) (serial : ℕ) (g : Present) → answers_collect (collected t serial g).reply ≡ true
collected_answers None serial g = refl
collected_answers (Some t) serial g = at t.state
  where
    at : (s : TicketState) → answers_collect (collected_in s t.command serial g).reply ≡ true
    at (ticket.Answered a) = refl
    at (ticket.NeedsFallback c) =
        either (not (props_of t.command g.props).fallback_on) answers_collect _ _ refl (either (nat_le (props_of t.command g.props).fallback_permits (in_fallback_count t.command g)) answers_collect _ _ refl refl)
    at ticket.Queued = refl
    at ticket.Running = refl
    at (ticket.InFallback c) = refl

fallback_answers : (t : Option Ticket) (serial : ℕ) (e : FallbackEnd) (g : Present) → answers_fallback_done (fallback_done t serial e g).reply ≡ true
fallback_answers None serial e g = refl
fallback_answers (Some t) serial e g = at t.state
  where
    at : (s : TicketState) → answers_fallback_done (fallback_done_in s t.command serial e g).reply ≡ true
    at (ticket.InFallback c) = refl
    at (ticket.Answered a) = refl
    at (ticket.NeedsFallback c) = refl
    at ticket.Queued = refl
    at ticket.Running = refl

started_answers : (t : Option Ticket) (g : Present) → answers_start (started t g).reply ≡ true
started_answers None g = refl
started_answers (Some t) g = refl

-- the machine's reply is one of the operation's own
pub outcome_answers : (o : Op) (rolling : ℕ → Rolling) (g : Present) → is_answer_to o (outcome o rolling g).reply ≡ true
outcome_answers (op.Submit request) rolling g = submitted_answers (cached_as request.command request.cache g) request (rolling request.command) g
outcome_answers op.Start rolling g = started_answers _ g
outcome_answers (op.Finish serial body) rolling g = ended_answers _ serial _ _ _ g
outcome_answers (op.Fail serial true) rolling g = ended_answers _ serial _ _ _ g
outcome_answers (op.Fail serial false) rolling g = ended_answers _ serial _ _ _ g
outcome_answers op.Expire rolling g = refl
outcome_answers (op.Collect serial) rolling g = collected_answers _ serial g
outcome_answers (op.FallbackDone serial e) rolling g = fallback_answers _ serial e g
outcome_answers (op.Close context) rolling g = refl
outcome_answers (op.Read command) rolling g = refl
outcome_answers (op.Totals command) rolling g = refl
outcome_answers (op.Tune command t) rolling g = either (is_within t) answers_tune _ _ refl refl

-- a disjunction whose right side is true
or_right : (a b : Bool) → b ≡ true → (a || b) ≡ true
or_right true b h = refl
or_right false b h = h

-- a reply is a refusal or one of the operation's own
pub view_reply_fits : (v : View) (o : Op) (now : ℕ) → can_reply o (view_reply v o now) ≡ true
view_reply_fits v o now = at (is_known o v.present.props) (is_worn v.present)
  where
    at : (known worn : Bool) → can_reply o (if known then (if worn then reply.Worn else (view_outcome v o now).reply) else reply.NoCommand) ≡ true
    at false worn = refl
    at true true = refl
    at true false = or_right _ _ (outcome_answers o _ _)
