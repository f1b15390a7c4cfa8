-- Replies that compare as equal are the same.
use Rattle.std.proofs.Common.{◌≡◌, Bool, true, false, arith, ap, refl, rules, ◌&&◌, nat_eq}
use Rattle.std.proofs.lemmas.Grind.{common_steps}
use Rattle.std.proofs.lemmas.Bool.Decides.{nat_tests}
use Rattle.bh_base.specs.declared.event.Counts.{Counts}
use Rattle.bh_base.specs.declared.circuit.CircuitState.{CircuitState}
use Rattle.bh_base.specs.declared.reply.Answer.{Answer}
use Rattle.bh_base.specs.declared.reply.Metrics.{Metrics}
use Rattle.bh_base.specs.declared.reply.Reply.{Reply}
use Rattle.bh_base.specs.declared.reply.Reply.TheVariants.{Queued, Inline, FallbackDue, Joined, GroupFull, Assigned, Idle, Done, Late, NotRunning, Expired, Pending, RunFallback, Answered, NoTicket, NotInFallback, Closed, Metrics as MetricsReply, Totals, Tuned, OutOfRange, Worn, NoCommand, NoGroup}
use Rattle.bh_base.specs.contracts.reply.ReplyPartialEq.TheImpl.{ghosts as reply_eq}
use Rattle.bh_base.specs.contracts.reply.AnswerPartialEq.TheImpl.{ghosts as answer_eq}
use Rattle.bh_base.specs.contracts.reply.MetricsPartialEq.TheImpl.{ghosts as metrics_eq}
use Rattle.bh_base.specs.contracts.event.CountsPartialEq.TheImpl.{ghosts as counts_eq}
use Rattle.bh_base.specs.contracts.circuit.CircuitStatePartialEq.TheImpl.{ghosts as circuit_eq}

both_true : (a b : Bool) → (a && b) ≡ true → (a ≡ true) × (b ≡ true)
both_true true b h = (refl, h)
both_true false b h = (let e : false ≡ true = h in cc, let e : false ≡ true = h in cc)

same_circuit : (a b : CircuitState) → circuit_eq.eq a b ≡ true → a ≡ b
same_circuit a b h = grind (arith, common_steps)

same_counts : (a b : Counts) → counts_eq.eq a b ≡ true → a ≡ b
same_counts a b h = grind (arith, nat_tests)

numbers : Metrics → Metrics → Bool
numbers a b = nat_eq a.errors b.errors && (nat_eq a.total b.total && (nat_eq a.percent b.percent && (nat_eq a.busy b.busy && (nat_eq a.queued b.queued && nat_eq a.free b.free))))

same_numbers : (a b : Metrics) → numbers a b ≡ true → a.circuit ≡ b.circuit → a.counts ≡ b.counts → a ≡ b
unfolding numbers
same_numbers a b h circuit counts = grind (arith, nat_tests)

same_metrics : (a b : Metrics) → metrics_eq.eq a b ≡ true → a ≡ b
unfolding numbers
same_metrics a b h =
    let first = both_true (circuit_eq.eq a.circuit b.circuit) (counts_eq.eq a.counts b.counts && numbers a b) h in
    let second = both_true (counts_eq.eq a.counts b.counts) (numbers a b) first.1 in
    same_numbers a b second.1 (same_circuit a.circuit b.circuit first.0) (same_counts a.counts b.counts second.0)

same_answer : (a b : Answer) → answer_eq.eq a b ≡ true → a ≡ b
same_answer a b h = search rules

-- two replies that compare as equal are the same
pub same_reply : (a b : Reply) → reply_eq.eq a b ≡ true → a ≡ b
same_reply (Queued a) (Queued b) h = search rules
same_reply (Inline a) (Inline b) h = search rules
same_reply (FallbackDue a cause) (FallbackDue b cause') h = search rules
same_reply (Joined a) (Joined b) h = search rules
same_reply GroupFull GroupFull h = refl
same_reply (Assigned a command arg) (Assigned b command' arg') h = search rules
same_reply Idle Idle h = refl
same_reply Done Done h = refl
same_reply Late Late h = refl
same_reply NotRunning NotRunning h = refl
same_reply (Expired a) (Expired b) h = search rules
same_reply Pending Pending h = refl
same_reply (RunFallback cause) (RunFallback cause') h = search rules
same_reply (Answered a) (Answered b) h = ap Answered (same_answer a b h)
same_reply NoTicket NoTicket h = refl
same_reply NotInFallback NotInFallback h = refl
same_reply (Closed a) (Closed b) h = search rules
same_reply (MetricsReply a) (MetricsReply b) h = ap MetricsReply (same_metrics a b h)
same_reply (Totals a) (Totals b) h = ap Totals (same_counts a b h)
same_reply Tuned Tuned h = refl
same_reply OutOfRange OutOfRange h = refl
same_reply Worn Worn h = refl
same_reply NoCommand NoCommand h = refl
same_reply NoGroup NoGroup h = refl
same_reply _ _ h = let e : false ≡ true = h in cc
