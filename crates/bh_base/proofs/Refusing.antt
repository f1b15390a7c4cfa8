-- What a refusal leaves.
use Rattle.std.proofs.Common.{◌≡◌, ℕ, ◌+◌, Bool, true, false, List, [], ◌∷◌, filter, cond, Option, Some, None, refl, sym, ap, ◌∙◌, append-nil}
use Rattle.std.specs.Prelude.{◌==◌, if◌then◌else◌}
use Rattle.bh_base.specs.declared.circuit.Admit.{Admit}
use Rattle.bh_base.specs.declared.circuit.Admit.TheVariants as admit
use Rattle.bh_base.specs.declared.event.Rolling.{Rolling}
use Rattle.bh_base.specs.declared.props.Strategy.{Strategy}
use Rattle.bh_base.specs.declared.props.Strategy.TheVariants as strategy
use Rattle.bh_base.specs.declared.reply.Reply.{Reply}
use Rattle.bh_base.specs.declared.reply.Reply.TheVariants as reply
use Rattle.bh_base.specs.declared.step.Op.{Op}
use Rattle.bh_base.specs.declared.step.Op.TheVariants as op
use Rattle.bh_base.specs.declared.step.Request.{Request}
use Rattle.bh_base.specs.declared.ticket.Ticket.{Ticket}
use Rattle.bh_base.specs.Circuit.{Asked, asked}
use Rattle.bh_base.specs.Tickets.{is_kept}
use Rattle.bh_base.specs.Commands.{props_of, each_from, is_known}
use Rattle.bh_base.specs.History.{Past}
use Rattle.bh_base.specs.Machine.{circuit_of, with_circuit, Present, Outcome, admitted, answers, cached_as, circuit_asked, circuit_said, free_count, is_admitted, outcome, rejected, submitted}
use Rattle.bh_base.specs.Replies.{is_answer_to}
use Rattle.bh_base.specs.Runs.{State, View, begun, is_worn, left_by, moved_on, outcome_in, past_with, step, stepped}
use Rattle.bh_base.specs.Seen.{view_after, view_outcome, view_recorded, view_reply}
use Rattle.bh_base.proofs.Answering.{outcome_answers}

-- no operation of its own is answered as worn, or as if there were no group or no command
not_worn : (o : Op) → is_answer_to o reply.Worn ≡ false
not_worn (op.Submit request) = refl
not_worn op.Start = refl
not_worn (op.Finish serial body) = refl
not_worn (op.Fail serial bad) = refl
not_worn op.Expire = refl
not_worn (op.Collect serial) = refl
not_worn (op.FallbackDone serial e) = refl
not_worn (op.Close context) = refl
not_worn (op.Read command) = refl
not_worn (op.Totals command) = refl
not_worn (op.Tune command t) = refl

not_unknown : (o : Op) → is_answer_to o reply.NoGroup ≡ false
not_unknown (op.Submit request) = refl
not_unknown op.Start = refl
not_unknown (op.Finish serial body) = refl
not_unknown (op.Fail serial bad) = refl
not_unknown op.Expire = refl
not_unknown (op.Collect serial) = refl
not_unknown (op.FallbackDone serial e) = refl
not_unknown (op.Close context) = refl
not_unknown (op.Read command) = refl
not_unknown (op.Totals command) = refl
not_unknown (op.Tune command t) = refl

not_missing : (o : Op) → is_answer_to o reply.NoCommand ≡ false
not_missing (op.Submit request) = refl
not_missing op.Start = refl
not_missing (op.Finish serial body) = refl
not_missing (op.Fail serial bad) = refl
not_missing op.Expire = refl
not_missing (op.Collect serial) = refl
not_missing (op.FallbackDone serial e) = refl
not_missing (op.Close context) = refl
not_missing (op.Read command) = refl
not_missing (op.Totals command) = refl
not_missing (op.Tune command t) = refl

differ : (o : Op) (rolling : ℕ → Rolling) (g : Present) (r : Reply) → is_answer_to o r ≡ false → (outcome o rolling g).reply ≡ r → ⊥
differ o rolling g r never is =
    let ever : is_answer_to o r ≡ true = ap (is_answer_to o) (sym is) ∙ outcome_answers o rolling g in
    let both : true ≡ false = sym ever ∙ never in
    cc

-- after Worn the view is what it was
pub worn_same : (v : View) (o : Op) (now : ℕ) → view_reply v o now ≡ reply.Worn → view_after v o now ≡ v
worn_same v o now = at (is_known o v.present.props) (is_worn v.present)
  where
    at : (known worn : Bool) → (if known then (if worn then reply.Worn else (view_outcome v o now).reply) else reply.NoCommand) ≡ reply.Worn → (if known then (if worn then v else view_recorded v (view_outcome v o now)) else v) ≡ v
    at false worn is = refl
    at true true is = refl
    at true false is = absurd (differ o _ (begun now v.present) reply.Worn (not_worn o) is)

-- after NoCommand too; and it is answered exactly where the group lacks the command that the operation names
pub missing_same : (v : View) (o : Op) (now : ℕ) → view_reply v o now ≡ reply.NoCommand → view_after v o now ≡ v
missing_same v o now = at (is_known o v.present.props) (is_worn v.present)
  where
    at : (known worn : Bool) → (if known then (if worn then reply.Worn else (view_outcome v o now).reply) else reply.NoCommand) ≡ reply.NoCommand → (if known then (if worn then v else view_recorded v (view_outcome v o now)) else v) ≡ v
    at false worn is = refl
    at true true is = refl
    at true false is = absurd (differ o _ (begun now v.present) reply.NoCommand (not_missing o) is)

pub missing_unknown : (v : View) (o : Op) (now : ℕ) → view_reply v o now ≡ reply.NoCommand → is_known o v.present.props ≡ false
missing_unknown v o now = at (is_known o v.present.props) (is_worn v.present)
  where
    at : (known worn : Bool) → (if known then (if worn then reply.Worn else (view_outcome v o now).reply) else reply.NoCommand) ≡ reply.NoCommand → known ≡ false
    at false worn is = refl
    at true true is = absurd cc
    at true false is = absurd (differ o _ (begun now v.present) reply.NoCommand (not_missing o) is)

pub unknown_missing : (v : View) (o : Op) (now : ℕ) → is_known o v.present.props ≡ false → view_reply v o now ≡ reply.NoCommand
unknown_missing v o now is = ap (λ (known : Bool). if known then (if is_worn v.present then reply.Worn else (view_outcome v o now).reply) else reply.NoCommand) is

-- a registered group is never answered NoGroup
pub known_group : (v : View) (o : Op) (now : ℕ) → view_reply v o now ≡ reply.NoGroup → ⊥
known_group v o now = at (is_known o v.present.props) (is_worn v.present)
  where
    at : (known worn : Bool) → (if known then (if worn then reply.Worn else (view_outcome v o now).reply) else reply.NoCommand) ≡ reply.NoGroup → ⊥
    at false worn is = cc
    at true true is = cc
    at true false is = differ o _ (begun now v.present) reply.NoGroup (not_unknown o) is

-- the replies of a submit that makes a ticket
abbrev makes_ticket : Reply → Bool
makes_ticket (reply.Queued serial) = true
makes_ticket (reply.Inline serial) = true
makes_ticket (reply.FallbackDue serial cause) = true
makes_ticket _ = false

either : (b : Bool) (x y : Outcome) → makes_ticket x.reply ≡ true → makes_ticket y.reply ≡ true → makes_ticket (if b then x else y).reply ≡ true
either true x y h k = h
either false x y h k = k

admitted_makes : (s : Strategy) (request : Request) (test : Bool) (g : Present) → makes_ticket (admitted s request test g).reply ≡ true
admitted_makes strategy.Semaphore request test g = refl
admitted_makes strategy.Thread request test g = refl

rejected_makes : (s : Strategy) (request : Request) (test : Bool) (g : Present) → makes_ticket (rejected s request test g).reply ≡ true
rejected_makes strategy.Semaphore request test g = refl
rejected_makes strategy.Thread request test g = refl

said_makes : (a : Admit) (request : Request) (g : Present) → makes_ticket (circuit_said a request g).reply ≡ true
said_makes admit.Short request g = refl
said_makes admit.Test request g = either (is_admitted g request.command (props_of request.command g.props).strategy) _ _ (admitted_makes (props_of request.command g.props).strategy request true g) (rejected_makes (props_of request.command g.props).strategy request true g)
said_makes admit.Pass request g = either (is_admitted g request.command (props_of request.command g.props).strategy) _ _ (admitted_makes (props_of request.command g.props).strategy request false g) (rejected_makes (props_of request.command g.props).strategy request false g)

full_submit : (t : Option Ticket) (request : Request) (rolling : Rolling) (g : Present) → (submitted t request rolling g).reply ≡ reply.GroupFull → submitted t request rolling g ≡ answers reply.GroupFull [] g
full_submit (Some t) request rolling g is = absurd cc
full_submit None request rolling g is = at (free_count g == 0) is
  where
    at : (b : Bool) → (if b then answers reply.GroupFull [] g else circuit_asked (asked (props_of request.command g.props) g.latest rolling.health g.serial (circuit_of request.command g)) request g).reply ≡ reply.GroupFull → (if b then answers reply.GroupFull [] g else circuit_asked (asked (props_of request.command g.props) g.latest rolling.health g.serial (circuit_of request.command g)) request g) ≡ answers reply.GroupFull [] g
    at true same = refl
    at false same =
        let said : Asked = asked (props_of request.command g.props) g.latest rolling.health g.serial (circuit_of request.command g) in
        let both : true ≡ false = sym (said_makes said.says request (with_circuit request.command said.circuit g)) ∙ ap makes_ticket same in
        absurd cc

-- GroupFull comes with nothing done
full_outcome : (o : Op) (rolling : ℕ → Rolling) (g : Present) → (outcome o rolling g).reply ≡ reply.GroupFull → outcome o rolling g ≡ answers reply.GroupFull [] g
full_outcome (op.Submit request) rolling g is = full_submit (cached_as request.command request.cache g) request (rolling request.command) g is
full_outcome op.Start rolling g is = absurd (differ op.Start rolling g reply.GroupFull refl is)
full_outcome (op.Finish serial body) rolling g is = absurd (differ (op.Finish serial body) rolling g reply.GroupFull refl is)
full_outcome (op.Fail serial bad) rolling g is = absurd (differ (op.Fail serial bad) rolling g reply.GroupFull refl is)
full_outcome op.Expire rolling g is = absurd (differ op.Expire rolling g reply.GroupFull refl is)
full_outcome (op.Collect serial) rolling g is = absurd (differ (op.Collect serial) rolling g reply.GroupFull refl is)
full_outcome (op.FallbackDone serial e) rolling g is = absurd (differ (op.FallbackDone serial e) rolling g reply.GroupFull refl is)
full_outcome (op.Close context) rolling g is = absurd (differ (op.Close context) rolling g reply.GroupFull refl is)
full_outcome (op.Read command) rolling g is = absurd (differ (op.Read command) rolling g reply.GroupFull refl is)
full_outcome (op.Totals command) rolling g is = absurd (differ (op.Totals command) rolling g reply.GroupFull refl is)
full_outcome (op.Tune command t) rolling g is = absurd (differ (op.Tune command t) rolling g reply.GroupFull refl is)

-- pasts without a new event
pasts_same : (moment from : ℕ) (ps : List Past) → each_from from (λ command p. past_with moment [] false p) ps ≡ ps
pasts_same moment from [] = refl
pasts_same moment from (p ∷ ps) = λ i. record { window = p.window; history = append-nil p.history i; health_from = p.health_from } ∷ pasts_same moment (from + 1) ps i

-- after GroupFull only the step number and the latest moment have changed, where every ticket is needed
pub full_leaves : (s : State) (o : Op) (now : ℕ) → filter is_kept s.present.tickets ≡ s.present.tickets → (step s o now).reply ≡ reply.GroupFull → (step s o now).state ≡ moved_on s now
full_leaves s o now kept = at (is_known o s.present.props) (is_worn s.present)
  where
    at : (known worn : Bool) → (stepped known worn s (outcome_in s o now)).reply ≡ reply.GroupFull → (stepped known worn s (outcome_in s o now)).state ≡ moved_on s now
    at false worn is = absurd cc
    at true true is = absurd cc
    at true false is =
        ap (left_by s) (full_outcome o _ (begun now s.present) is)
        ∙ (λ i. record { present = record (begun now s.present) { tickets = kept i }; pasts = pasts_same (begun now s.present).latest 0 s.pasts i })

-- tickets that were kept are kept again
pub filter-twice : (p : Ticket → Bool) (ts : List Ticket) → filter p (filter p ts) ≡ filter p ts
filter-twice p [] = refl
filter-twice p (t ∷ ts) = at (p t) refl (filter-twice p ts)
  where
    at : (b : Bool) → p t ≡ b → filter p (filter p ts) ≡ filter p ts → filter p (cond b (t ∷ filter p ts) (filter p ts)) ≡ cond b (t ∷ filter p ts) (filter p ts)
    at true is same = ap (λ c. cond c (t ∷ filter p (filter p ts)) (filter p (filter p ts))) is ∙ ap (λ us. t ∷ us) same
    at false is same = same
