-- A step of a call and the Collect behind it, in one turn of the lock.
use Rattle.std.proofs.Common.{◌≡◌, ◌≢◌, ℕ, ◌+◌, ◌-◌, ◌≤◌, Bool, true, false, List, inl, refl, ap, arith}
use Rattle.std.specs.Prelude.{Result}
use Rattle.bh_base.specs.declared.step.GroupId.{GroupId}
use Rattle.bh_base.specs.declared.step.FallbackEnd.{FallbackEnd}
use Rattle.bh_base.specs.declared.step.Op.TheVariants as op
use Rattle.bh_base.specs.declared.step.Request.{Request}
use Rattle.bh_base.specs.declared.step.RunEnd.{RunEnd}
use Rattle.bh_base.specs.declared.step.Step.{Step}
use Rattle.bh_base.specs.declared.reply.Answer.{Answer}
use Rattle.bh_base.specs.declared.reply.CallError.{CallError}
use Rattle.bh_base.specs.declared.reply.Cause.{Cause}
use Rattle.bh_base.specs.declared.reply.Reply.{Reply}
use Rattle.bh_base.specs.declared.reply.Reply.TheVariants as reply
use Rattle.bh_base.specs.Replies.{is_refusal}
use Rattle.bh_journal.specs.Passes.{Adds, AddsReceipt, PassView}
use Rattle.bh_audit.specs.Calls.{AddsCollect, AddsProgress, AddsStep, AddsStepAndCollect, CanBeMissing, step_at}
use Rattle.bh_audit.specs.declared.next.Progress.{Progress}
use Rattle.bh_audit.specs.declared.next.Progress.TheVariants as progress
use Rattle.bh_workers.specs.Receipts.{end_op}
use Rattle.bh_workers.specs.Calls.{CallAdds, IsCollected, IsFallenBack, IsRefused, IsRunInline, IsSettled, result_of}
use Rattle.bh_workers.specs.Collecting.{IsCollectMade, IsFallbackRun, ProgressAdds, receipts_of}
use Rattle.bh_workers.proofs.Calling.{collects, end_known, fallback_end_known, falls_back, in_other_words, refused_no_group, refused_worn, runs_inline, settles}

-- the room that each of them takes

receipt_room : (a : Bool) (p q : PassView) (s : Step) (r : Reply) → AddsReceipt a p s r q → p.room ≤ q.room + 1
receipt_room true p q s r h = (let e : q.room ≡ p.room - 1 = ap (λ (x : PassView). x.room) h.1 in omega arith)
receipt_room false p q s r h = (let e : q.room ≡ p.room = ap (λ (x : PassView). x.room) h in omega arith)

same_room : (p q : PassView) → p.room ≡ q.room → p.room ≤ q.room + 0
same_room p q e = omega arith

refused_room : (a : Bool) (p q : PassView) (s : Step) (r : Reply) → is_refusal r ≡ true → Adds a p s r q → p.room ≤ q.room + 0
refused_room a p q s reply.Worn is h = (let e : q.room ≡ p.room = ap (λ (x : PassView). x.room) h in omega arith)
refused_room a p q s reply.NoGroup is h = (let e : q.room ≡ p.room = ap (λ (x : PassView). x.room) h in omega arith)
refused_room a p q s reply.NoCommand is h = (let e : q.room ≡ p.room = ap (λ (x : PassView). x.room) h in omega arith)
refused_room a p q s _ is h = absurd (let e : false ≡ true = is in cc)

step_room : (a : Bool) (p q : PassView) (s : Step) (r : Reply) → Adds a p s r q → p.room ≤ q.room + 1
step_room a p q s reply.Worn h = (let e : q.room ≡ p.room = ap (λ (x : PassView). x.room) h in omega arith)
step_room a p q s reply.NoGroup h = (let e : q.room ≡ p.room = ap (λ (x : PassView). x.room) h in omega arith)
step_room a p q s reply.NoCommand h = (let e : q.room ≡ p.room = ap (λ (x : PassView). x.room) h in omega arith)
step_room a p q s r h = receipt_room a p q s r h

collect_room : (moments : ℕ → Type 0) (a : Bool) (p q : PassView) (serial : ℕ) (r : Reply) → AddsCollect moments a p serial r q → p.room ≤ q.room + 1
collect_room moments a p q serial reply.Pending h =
    (let e : q.room ≡ h.1.room = ap (λ (x : PassView). x.room) h.4 in let k = receipt_room a p h.1 (step_at p.group h.0 (op.Collect serial)) reply.Pending h.3 in omega arith)
collect_room moments a p q serial r h = step_room a p q (step_at p.group h.0 (op.Collect serial)) r h.2

pub progress_room : (moments : ℕ → Type 0) (a : Bool) (p q : PassView) (s : Step) (serial : ℕ) (told : Progress) (r : Reply) → AddsProgress moments a p s serial told r q → p.room ≤ q.room + receipts_of told
progress_room moments a p q s serial progress.Refused r h = refused_room a p q s r h.refusal h.adds
progress_room moments a p q s serial progress.Stepped r h = step_room a p q s r h.adds
progress_room moments a p q s serial progress.Collected r h =
    (let e = step_room a p h.between s h.first h.made.adds in let k = collect_room moments a h.between q serial r h.adds in omega arith)

-- a step that was refused, of an operation that names no command
refused : (a : Bool) (p q : PassView) (s : Step) (r : Reply) → (CanBeMissing s.op → ⊥) → AddsStep a true p s r q → CallAdds a p (result_of r) q (IsRefused (result_of r))
refused a p q s reply.Worn known h = refused_worn a p q h.adds
refused a p q s reply.NoGroup known h = refused_no_group a p q h.adds
refused a p q s reply.NoCommand known h = absurd (known (h.missing refl))
refused a p q s _ known h = absurd (let e : false ≡ true = h.refusal in cc)

-- a Collect behind a step
collected : (moments : ℕ → Type 0) (a : Bool) (p q : PassView) (s : Step) (serial : ℕ) (r : Reply) → (h : AddsStepAndCollect moments a p s serial r q) → IsCollectMade moments a h.between serial r q
collected moments a p q s serial r h = collects moments a h.between q serial r h.kind h.known h.adds

module _ (ends : GroupId → ℕ → List ℕ → RunEnd → Type 0) (fallback_ends : GroupId → ℕ → Cause → List ℕ → FallbackEnd → Type 0) (moments : ℕ → Type 0) where
  -- a Collect by which no fallback is to be run
  settled_over : (a : Bool) (p m q : PassView) (serial : ℕ) (request : Request) (told answer : Reply) → ((cause : Cause) → told ≢ reply.RunFallback cause)
      → IsCollectMade moments a p serial told m → IsFallbackRun fallback_ends moments a m serial request told answer q
      → CallAdds a p (result_of answer) q (IsSettled fallback_ends moments p.group serial request (result_of answer))
  settled_over a p m q serial request told answer other made run =
      let result = result_of told in
      rw (run.same_pass other, run.same_answer other)
      (in_other_words a p m result (IsCollected moments p.group serial result) (IsSettled fallback_ends moments p.group serial request result) (λ receipts h. inl h) (made.over other))

  -- a Collect, and the fallback where it is to be run
  pub settles_on : (a : Bool) (p m q : PassView) (serial : ℕ) (request : Request) (told answer : Reply)
      → IsCollectMade moments a p serial told m → IsFallbackRun fallback_ends moments a m serial request told answer q
      → CallAdds a p (result_of answer) q (IsSettled fallback_ends moments p.group serial request (result_of answer))
  settles_on a p m q serial request (reply.RunFallback cause) answer made run =
      settles ends fallback_ends moments a p m q serial cause request (result_of answer) (made.due cause refl) (run.due cause refl)
  settles_on a p m q serial request told answer made run = settled_over a p m q serial request told answer (λ cause is. cc) made run

  -- the end of a run by the caller was refused
  pub run_refused : (a : Bool) (p q : PassView) (serial : ℕ) (request : Request) (end : RunEnd) (r : Reply) → ProgressAdds moments a p (end_op serial end) serial progress.Refused r q
      → CallAdds a p (result_of r) q (IsRunInline ends fallback_ends moments p.group serial request (result_of r))
  run_refused a p q serial request end r h =
      let result = result_of r in
      in_other_words a p q result (IsRefused result) (IsRunInline ends fallback_ends moments p.group serial request result) (λ made k. inl k)
      (refused a p q (step_at p.group h.0 (end_op serial end)) r (end_known serial end) h.2)

  -- it was told, and the ticket was settled later
  pub run_stepped : (a : Bool) (p m q : PassView) (g : GroupId) (serial : ℕ) (request : Request) (end : RunEnd) (r : Reply) (result : Result Answer CallError)
      → g ≡ p.group → ends g request.command request.arg end → ProgressAdds moments a p (end_op serial end) serial progress.Stepped r m
      → CallAdds a m result q (IsSettled fallback_ends moments m.group serial request result)
      → CallAdds a p result q (IsRunInline ends fallback_ends moments p.group serial request result)
  run_stepped a p m q g serial request end r result same possible h k =
      runs_inline ends fallback_ends moments a p m q g serial request end r result h.2.refusal same possible (h.0, h.1, h.2.adds) k

  -- it was told, and the ticket collected behind it
  pub run_collected : (a : Bool) (p m q : PassView) (g : GroupId) (serial : ℕ) (request : Request) (end : RunEnd) (told answer : Reply)
      → g ≡ p.group → ends g request.command request.arg end → ProgressAdds moments a p (end_op serial end) serial progress.Collected told m
      → IsFallbackRun fallback_ends moments a m serial request told answer q
      → CallAdds a p (result_of answer) q (IsRunInline ends fallback_ends moments p.group serial request (result_of answer))
  run_collected a p m q g serial request end told answer same possible h run =
      let both = h.2 in
      runs_inline ends fallback_ends moments a p both.between q g serial request end both.first (result_of answer) both.made.refusal same possible (h.0, h.1, both.made.adds)
      (settles_on a both.between m q serial request told answer (collected moments a p m (step_at p.group h.0 (end_op serial end)) serial told both) run)

  -- the same of the end of a fallback
  pub fallback_refused : (a : Bool) (p q : PassView) (serial : ℕ) (cause : Cause) (request : Request) (end : FallbackEnd) (r : Reply) → ProgressAdds moments a p (op.FallbackDone serial end) serial progress.Refused r q
      → CallAdds a p (result_of r) q (IsFallenBack fallback_ends moments p.group serial cause request (result_of r))
  fallback_refused a p q serial cause request end r h =
      let result = result_of r in
      in_other_words a p q result (IsRefused result) (IsFallenBack fallback_ends moments p.group serial cause request result) (λ made k. inl k)
      (refused a p q (step_at p.group h.0 (op.FallbackDone serial end)) r (fallback_end_known serial end) h.2)

  pub fallback_stepped : (a : Bool) (p m q : PassView) (g : GroupId) (serial : ℕ) (cause : Cause) (request : Request) (end : FallbackEnd) (r answer : Reply)
      → g ≡ p.group → fallback_ends g request.command cause request.arg end → ProgressAdds moments a p (op.FallbackDone serial end) serial progress.Stepped r m
      → IsCollectMade moments a m serial answer q
      → CallAdds a p (result_of answer) q (IsFallenBack fallback_ends moments p.group serial cause request (result_of answer))
  fallback_stepped a p m q g serial cause request end r answer same possible h made =
      falls_back ends fallback_ends moments a p m q g serial cause request end r (result_of answer) h.2.refusal same possible (h.0, h.1, h.2.adds) made.last

  pub fallback_collected : (a : Bool) (p q : PassView) (g : GroupId) (serial : ℕ) (cause : Cause) (request : Request) (end : FallbackEnd) (answer : Reply)
      → g ≡ p.group → fallback_ends g request.command cause request.arg end → ProgressAdds moments a p (op.FallbackDone serial end) serial progress.Collected answer q
      → CallAdds a p (result_of answer) q (IsFallenBack fallback_ends moments p.group serial cause request (result_of answer))
  fallback_collected a p q g serial cause request end answer same possible h =
      let both = h.2 in
      falls_back ends fallback_ends moments a p both.between q g serial cause request end both.first (result_of answer) both.made.refusal same possible (h.0, h.1, both.made.adds)
      (collected moments a p q (step_at p.group h.0 (op.FallbackDone serial end)) serial answer both).last
