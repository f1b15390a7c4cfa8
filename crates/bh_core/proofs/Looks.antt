-- What a step would be answered, by what the code looks at.
use Rattle.std.proofs.Common.{◌≡◌, ℕ, Bool, true, false, not, cond, List, [], ◌∷◌, filter, length, Some, None, refl, ◌∙◌, sym, ap, arith}
use Rattle.std.specs.Prelude.{◌||◌, find, nat_lt, nat_le, if◌then◌else◌}
use Rattle.std.specs.List.{list_any}
use Rattle.std.proofs.lemmas.Bool.Decides.{nat_tests}
use Rattle.bh_base.specs.declared.reply.Reply.{Reply}
use Rattle.bh_base.specs.declared.reply.Reply.TheVariants as reply
use Rattle.bh_base.specs.declared.step.Op.{Op}
use Rattle.bh_base.specs.declared.step.Op.TheVariants as op
use Rattle.bh_base.specs.declared.ticket.Ticket.{Ticket}
use Rattle.bh_base.specs.declared.ticket.TicketState.{TicketState}
use Rattle.bh_base.specs.declared.ticket.TicketState.TheVariants as ticket
use Rattle.bh_base.specs.Commands.{props_of, is_known}
use Rattle.bh_base.specs.Machine.{Present, Outcome, pool_busy_count, collected, collected_in, in_fallback_count, is_due, started}
use Rattle.bh_base.specs.Replies.{is_answer_to}
use Rattle.bh_base.specs.Runs.{View, begun, is_worn}
use Rattle.bh_base.specs.Seen.{view_outcome, view_reply}
use Rattle.bh_base.proofs.Answering.{outcome_answers}
use Rattle.bh_base.specs.Tickets.{in_state, is_held_at, is_queued, is_unanswered}
use Rattle.bh_core.specs.Looks.{expires_some, is_assigned, is_pending, is_worn_out, metrics_shown, metrics_told}

-- what is told of the reply of a group that has the command and is not worn
reply_fresh : (p : Reply → Bool) (v : View) (o : Op) (now : ℕ) → is_known o v.present.props ≡ true → is_worn v.present ≡ false → p (view_reply v o now) ≡ p (view_outcome v o now).reply
reply_fresh p v o now known fresh =
    ap (λ b. p (if b then (if is_worn v.present then reply.Worn else (view_outcome v o now).reply) else reply.NoCommand)) known
    ∙ ap (λ b. p (if b then reply.Worn else (view_outcome v o now).reply)) fresh

-- Worn

-- no operation of its own is answered as worn
never_worn : (o : Op) → is_answer_to o reply.Worn ≡ false
never_worn (op.Submit request) = refl
never_worn op.Start = refl
never_worn (op.Finish serial body) = refl
never_worn (op.Fail serial bad) = refl
never_worn op.Expire = refl
never_worn (op.Collect serial) = refl
never_worn (op.FallbackDone serial e) = refl
never_worn (op.Close context) = refl
never_worn (op.Read command) = refl
never_worn (op.Totals command) = refl
never_worn (op.Tune command t) = refl

not_worn_out : (o : Op) (r : Reply) → is_answer_to o r ≡ true → is_worn_out r ≡ false
not_worn_out o (reply.Queued n) ever = refl
not_worn_out o (reply.Inline n) ever = refl
not_worn_out o (reply.FallbackDue n c) ever = refl
not_worn_out o (reply.Joined n) ever = refl
not_worn_out o reply.GroupFull ever = refl
not_worn_out o (reply.Assigned n c a) ever = refl
not_worn_out o reply.Idle ever = refl
not_worn_out o reply.Done ever = refl
not_worn_out o reply.Late ever = refl
not_worn_out o reply.NotRunning ever = refl
not_worn_out o (reply.Expired n) ever = refl
not_worn_out o reply.Pending ever = refl
not_worn_out o (reply.RunFallback c) ever = refl
not_worn_out o (reply.Answered a) ever = refl
not_worn_out o reply.NoTicket ever = refl
not_worn_out o reply.NotInFallback ever = refl
not_worn_out o (reply.Closed n) ever = refl
not_worn_out o (reply.Metrics m) ever = refl
not_worn_out o (reply.Totals c) ever = refl
not_worn_out o reply.Tuned ever = refl
not_worn_out o reply.OutOfRange ever = refl
not_worn_out o reply.NoGroup ever = refl
not_worn_out o reply.NoCommand ever = refl
not_worn_out o reply.Worn ever = absurd (let both : true ≡ false = sym ever ∙ never_worn o in cc)

-- a group that has the command is answered Worn once it has done its steps, and then alone
pub worn_seen : (v : View) (o : Op) (now : ℕ) → is_known o v.present.props ≡ true → is_worn v.present ≡ is_worn_out (view_reply v o now)
worn_seen v o now known = at (is_worn v.present) ∙ sym (ap (λ b. is_worn_out (if b then (if is_worn v.present then reply.Worn else (view_outcome v o now).reply) else reply.NoCommand)) known)
  where
    at : (worn : Bool) → worn ≡ is_worn_out (if worn then reply.Worn else (view_outcome v o now).reply)
    at true = refl
    at false = sym (not_worn_out o (view_outcome v o now).reply (outcome_answers o _ (begun now v.present)))

-- Start

started_with : (ts : List Ticket) (g : Present) → list_any is_queued ts ≡ is_assigned (started (find is_queued ts) g).reply
started_with [] g = refl
started_with (t ∷ ts) g = at (is_queued t) (started_with ts g)
  where
    at : (b : Bool) → list_any is_queued ts ≡ is_assigned (started (find is_queued ts) g).reply → (b || list_any is_queued ts) ≡ is_assigned (started (cond b (Some t) (find is_queued ts)) g).reply
    at true h = refl
    at false h = h

-- where no ticket is queued nobody gets a run
pub none_queued : (v : View) (now : ℕ) → is_worn v.present ≡ false → list_any is_queued v.present.tickets ≡ false → is_assigned (view_reply v op.Start now) ≡ false
none_queued v now fresh none = reply_fresh is_assigned v op.Start now refl fresh ∙ at (nat_lt (pool_busy_count v.present) v.present.props.core)
  where
    at : (b : Bool) → is_assigned (started (if b then find is_queued v.present.tickets else None) (begun now v.present)).reply ≡ false
    at true = sym (started_with v.present.tickets (begun now v.present)) ∙ none
    at false = refl

-- where one is queued, a worker that is free gets a run
pub some_queued : (v : View) (now : ℕ) → is_worn v.present ≡ false → list_any is_queued v.present.tickets ≡ true → is_assigned (view_reply v op.Start now) ≡ nat_lt (pool_busy_count v.present) v.present.props.core
some_queued v now fresh some = reply_fresh is_assigned v op.Start now refl fresh ∙ at (nat_lt (pool_busy_count v.present) v.present.props.core)
  where
    at : (b : Bool) → is_assigned (started (if b then find is_queued v.present.tickets else None) (begun now v.present)).reply ≡ b
    at true = sym (started_with v.present.tickets (begun now v.present)) ∙ some
    at false = refl

-- Collect

not_pending : (b : Bool) (x y : Outcome) → is_pending x.reply ≡ false → is_pending y.reply ≡ false → is_pending (if b then x else y).reply ≡ false
not_pending true x y h k = h
not_pending false x y h k = k

collected_with : (t : Ticket) (serial : ℕ) (g : Present) → is_unanswered t ≡ is_pending (collected (Some t) serial g).reply
collected_with t serial g = at t.state
  where
    at : (s : TicketState) → is_unanswered (in_state s t) ≡ is_pending (collected_in s t.command serial g).reply
    at ticket.Queued = refl
    at ticket.Running = refl
    at (ticket.InFallback cause) = refl
    at (ticket.Answered answer) = refl
    at (ticket.NeedsFallback cause) = sym (not_pending (not (props_of t.command g.props).fallback_on) _ _ refl (not_pending (nat_le (props_of t.command g.props).fallback_permits (in_fallback_count t.command g)) _ _ refl refl))

-- a serial that nobody holds is not Pending
pub unheld_not_pending : (v : View) (serial now : ℕ) → is_worn v.present ≡ false → find (is_held_at serial) v.present.tickets ≡ None → false ≡ is_pending (view_reply v (op.Collect serial) now)
unheld_not_pending v serial now fresh none =
    sym (reply_fresh is_pending v (op.Collect serial) now refl fresh ∙ ap (λ o. is_pending (collected o serial (begun now v.present)).reply) none)

-- a held ticket is Pending until it is answered or needs its fallback
pub collect_seen : (v : View) (serial now : ℕ) (t : Ticket) → is_worn v.present ≡ false → find (is_held_at serial) v.present.tickets ≡ Some t → is_unanswered t ≡ is_pending (view_reply v (op.Collect serial) now)
collect_seen v serial now t fresh held =
    collected_with t serial (begun now v.present)
    ∙ sym (reply_fresh is_pending v (op.Collect serial) now refl fresh ∙ ap (λ o. is_pending (collected o serial (begun now v.present)).reply) held)

-- Expire

any_filtered : (p : Ticket → Bool) (ts : List Ticket) → list_any p ts ≡ nat_lt 0 (length (filter p ts))
any_filtered p [] = refl
any_filtered p (t ∷ ts) = at (p t) (any_filtered p ts)
  where
    at : (b : Bool) → list_any p ts ≡ nat_lt 0 (length (filter p ts)) → (b || list_any p ts) ≡ nat_lt 0 (length (cond b (t ∷ filter p ts) (filter p ts)))
    at true h = grind (arith, nat_tests)
    at false h = h

-- tickets time out where one is due at the step's moment
pub expire_seen : (v : View) (now : ℕ) → is_worn v.present ≡ false → list_any (is_due (begun now v.present)) v.present.tickets ≡ expires_some (view_reply v op.Expire now)
expire_seen v now fresh = any_filtered (is_due (begun now v.present)) v.present.tickets ∙ sym (reply_fresh expires_some v op.Expire now refl fresh)

-- in a group without tickets none times out
pub empty_not_due : (v : View) (now : ℕ) → v.present.tickets ≡ [] → expires_some (view_reply v op.Expire now) ≡ false
empty_not_due v now none = at (is_worn v.present)
  where
    at : (worn : Bool) → expires_some (if worn then reply.Worn else reply.Expired (length (filter (is_due (begun now v.present)) v.present.tickets))) ≡ false
    at true = refl
    at false = ap (λ ts. expires_some (reply.Expired (length (filter (is_due (begun now v.present)) ts)))) none

-- Read

told_or_none : (known : Bool) (r : Reply) → (if known then metrics_told r else None) ≡ metrics_told (if known then r else reply.NoCommand)
told_or_none true r = refl
told_or_none false r = refl

-- the metrics that are shown are those of a Read
pub read_seen : (v : View) (command now : ℕ) → is_worn v.present ≡ false → metrics_shown command now v ≡ metrics_told (view_reply v (op.Read command) now)
read_seen v command now fresh =
    told_or_none (is_known (op.Read command) v.present.props) (view_outcome v (op.Read command) now).reply
    ∙ sym (ap (λ b. metrics_told (if is_known (op.Read command) v.present.props then (if b then reply.Worn else (view_outcome v (op.Read command) now).reply) else reply.NoCommand)) fresh)
