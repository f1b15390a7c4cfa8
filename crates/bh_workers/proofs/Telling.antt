-- The receipts of a call, told apart by its result.
use Rattle.std.proofs.Common.{◌≡◌, ◌≢◌, ℕ, ◌+◌, ◌≤◌, List, [], ◌∷◌, ◌++◌, inl, inr, length, refl, sym, ap, subst, arith}
use Rattle.std.specs.Prelude.{Result, Ok, Err}
use Rattle.std.specs.List.{AllByRecursion}
use Rattle.bh_base.specs.declared.step.GroupId.{GroupId}
use Rattle.bh_base.specs.declared.step.FallbackEnd.{FallbackEnd}
use Rattle.bh_base.specs.declared.step.Op.{Op}
use Rattle.bh_base.specs.declared.step.Op.TheVariants as op
use Rattle.bh_base.specs.declared.step.Request.{Request}
use Rattle.bh_base.specs.declared.step.RunEnd.{RunEnd}
use Rattle.bh_base.specs.declared.step.Step.{Step}
use Rattle.bh_base.specs.declared.reply.Answer.{Answer}
use Rattle.bh_base.specs.declared.reply.CallError.{CallError}
use Rattle.bh_base.specs.declared.reply.CallError.TheVariants as error
use Rattle.bh_base.specs.declared.reply.Cause.{Cause}
use Rattle.bh_base.specs.declared.reply.Reply.{Reply}
use Rattle.bh_base.specs.declared.reply.Reply.TheVariants as reply
use Rattle.bh_journal.specs.declared.pass.Receipt.{Receipt}
use Rattle.bh_workers.specs.Receipts.{IsReceiptOf, IsRunEnd, end_op}
use Rattle.bh_workers.specs.Calls.{IsCall, IsCallMade, IsCollected, IsCollectedLast, IsFallbackEnd, IsFallenBack, IsNothing, IsRefused, IsRunInline, IsSettled, IsWaiting, Only, Then}
use Rattle.bh_workers.specs.CallLaw.{AreToldBy, CollectsItsTicket, IsStepAt, IsTold, SubmitsFor}
use Rattle.bh_workers.proofs.Calling.{IsNoEnd, run_inline_unended, settled_unended}

-- a last receipt that is so
record EndsIn (IsSo : Receipt → Type 0) (made : List Receipt) : Type 0 where
  pub before : List Receipt
  pub last : Receipt
  pub is : made ≡ before ++ last ∷ []
  pub so : IsSo last

ends_in_only : (IsSo : Receipt → Type 0) (made : List Receipt) → Only IsSo made → EndsIn IsSo made
ends_in_only IsSo [] h = absurd h
ends_in_only IsSo (r ∷ rs) h = record { before = []; last = r; is = ap (λ (x : List Receipt). r ∷ x) h.1; so = h.0 }

ends_in_more : (IsSo : Receipt → Type 0) (r : Receipt) (made : List Receipt) → EndsIn IsSo made → EndsIn IsSo (r ∷ made)
ends_in_more IsSo r made h = record { before = r ∷ h.before; last = h.last; is = ap (λ (x : List Receipt). r ∷ x) h.is; so = h.so }

-- so many receipts at most, all of them so
record Within (most : ℕ) (IsSo : Receipt → Type 0) (made : List Receipt) : Type 0 where
  pub few : length made ≤ most
  pub all : AllByRecursion IsSo made

within_nothing : (most : ℕ) (IsSo : Receipt → Type 0) (made : List Receipt) → IsNothing made → Within most IsSo made
within_nothing most IsSo [] h = record { few = omega arith; all = tt }
within_nothing most IsSo (r ∷ rs) h = absurd (let e : r ∷ rs ≡ [] = h in cc)

within_then : (most : ℕ) (IsSo First : Receipt → Type 0) (Rest : List Receipt → Type 0) → ((r : Receipt) → First r → IsSo r) → ((rs : List Receipt) → Rest rs → Within most IsSo rs)
    → (made : List Receipt) → Then First Rest made → Within (most + 1) IsSo made
within_then most IsSo First Rest first rest [] h = absurd h
within_then most IsSo First Rest first rest (r ∷ rs) h =
    let w = rest rs h.1 in
    record { few = (let e = w.few in omega arith); all = (first r h.0, w.all) }

within_more : (most more : ℕ) (IsSo : Receipt → Type 0) (made : List Receipt) → most ≤ more → Within most IsSo made → Within more IsSo made
within_more most more IsSo made le w = record { few = (let e = w.few in omega arith); all = w.all }

module _ (moments : ℕ → Type 0) (g : GroupId) where
  step_at : (o : Op) (answered : Reply) (r : Receipt) → IsReceiptOf moments g o answered r → IsStepAt moments g r
  step_at o answered r h = (
    ap (λ (x : Step). x.group) h.step,
    subst moments (sym (ap (λ (x : Step). x.now) h.step)) h.named,
  )

  only_within : (o : Op) (answered : Reply) (made : List Receipt) → Only (IsReceiptOf moments g o answered) made → Within 1 (IsStepAt moments g) made
  only_within o answered made h =
      within_then 0 (IsStepAt moments g) (IsReceiptOf moments g o answered) IsNothing (step_at o answered) (within_nothing 0 (IsStepAt moments g)) made h

  refused_within : (most : ℕ) (result : Result Answer CallError) (made : List Receipt) → IsRefused result made → Within most (IsStepAt moments g) made
  refused_within most (Ok answer) made h = absurd h
  refused_within most (Err error.GroupFull) made h = absurd h
  refused_within most (Err error.PassFull) made h = absurd h
  refused_within most (Err error.NoCommand) made h = absurd h
  refused_within most (Err error.Taken) made h = absurd h
  refused_within most (Err error.Stopped) made h = absurd h
  refused_within most (Err error.Worn) made h = within_nothing most (IsStepAt moments g) made h
  refused_within most (Err error.NoGroup) made h = within_nothing most (IsStepAt moments g) made h

  collected_within : (serial : ℕ) (result : Result Answer CallError) (made : List Receipt) → IsCollected moments g serial result made → Within 1 (IsStepAt moments g) made
  collected_within serial (Ok answer) made h = only_within (op.Collect serial) (reply.Answered answer) made h
  collected_within serial (Err error.Taken) made h = only_within (op.Collect serial) reply.NoTicket made h
  collected_within serial (Err error.Stopped) made h = only_within (op.Collect serial) reply.Pending made h
  collected_within serial (Err error.GroupFull) made h = absurd h
  collected_within serial (Err error.PassFull) made h = absurd h
  collected_within serial (Err error.NoCommand) made h = absurd h
  collected_within serial (Err error.Worn) made h = within_nothing 1 (IsStepAt moments g) made h
  collected_within serial (Err error.NoGroup) made h = within_nothing 1 (IsStepAt moments g) made h

  collected_last_within : (serial : ℕ) (result : Result Answer CallError) (made : List Receipt) → IsCollectedLast moments g serial result made → Within 1 (IsStepAt moments g) made
  collected_last_within serial result made (inl h) = collected_within serial result made h
  collected_last_within serial result made (inr h) = only_within (op.Collect serial) (reply.RunFallback h.1.0) made h.1.1

  waiting_at : (request : Request) (serial : ℕ) (r : Receipt) → IsWaiting moments g request serial r → IsStepAt moments g r
  waiting_at request serial r (inl h) = step_at (op.Submit request) (reply.Queued serial) r h
  waiting_at request serial r (inr (inl h)) = step_at (op.Submit request) (reply.Joined serial) r h
  waiting_at request serial r (inr (inr h)) = step_at (op.Submit request) (reply.FallbackDue serial h.0) r h.1

  waiting_names : (request : Request) (serial : ℕ) (r : Receipt) → IsWaiting moments g request serial r → SubmitsFor moments g request serial r
  waiting_names request serial r (inl h) = record { answered = reply.Queued serial; names = refl; submitted = h }
  waiting_names request serial r (inr (inl h)) = record { answered = reply.Joined serial; names = refl; submitted = h }
  waiting_names request serial r (inr (inr h)) = record { answered = reply.FallbackDue serial h.0; names = refl; submitted = h.1 }

module _ (ends : GroupId → ℕ → List ℕ → RunEnd → Type 0) (fallback_ends : GroupId → ℕ → Cause → List ℕ → FallbackEnd → Type 0) (moments : ℕ → Type 0) (g : GroupId) where
  fallen_back_within : (serial : ℕ) (cause : Cause) (request : Request) (result : Result Answer CallError) (made : List Receipt)
      → IsFallenBack fallback_ends moments g serial cause request result made → Within 2 (IsStepAt moments g) made
  fallen_back_within serial cause request result made (inl h) = refused_within moments g 2 result made h
  fallen_back_within serial cause request result made (inr h) =
      within_then 1 (IsStepAt moments g) (IsFallbackEnd fallback_ends moments g serial cause request) (IsCollectedLast moments g serial result)
      (λ r e. step_at moments g (op.FallbackDone serial e.end) e.answered r e.told) (collected_last_within moments g serial result) made h

  settled_within : (serial : ℕ) (request : Request) (result : Result Answer CallError) (made : List Receipt) → IsSettled fallback_ends moments g serial request result made → Within 3 (IsStepAt moments g) made
  settled_within serial request result made (inl h) = within_more 1 3 (IsStepAt moments g) made (omega arith) (collected_within moments g serial result made h)
  settled_within serial request result made (inr h) =
      within_then 2 (IsStepAt moments g) (IsReceiptOf moments g (op.Collect serial) (reply.RunFallback h.0)) (IsFallenBack fallback_ends moments g serial h.0 request result)
      (step_at moments g (op.Collect serial) (reply.RunFallback h.0)) (fallen_back_within serial h.0 request result) made h.1

  run_inline_within : (serial : ℕ) (request : Request) (result : Result Answer CallError) (made : List Receipt) → IsRunInline ends fallback_ends moments g serial request result made → Within 4 (IsStepAt moments g) made
  run_inline_within serial request result made (inl h) = refused_within moments g 4 result made h
  run_inline_within serial request result made (inr h) =
      within_then 3 (IsStepAt moments g) (IsRunEnd ends moments g serial request.command request.arg) (IsSettled fallback_ends moments g serial request result)
      (λ r e. step_at moments g (end_op serial e.end) e.answered r e.told) (settled_within serial request result) made h

  call_within : (request : Request) (result : Result Answer CallError) (made : List Receipt) → IsCallMade ends fallback_ends moments g request result made → Within 5 (IsStepAt moments g) made
  call_within request result made (inl h) = refused_within moments g 5 result made h
  call_within request result made (inr (inl h)) = within_more 1 5 (IsStepAt moments g) made (omega arith) (only_within moments g (op.Submit request) reply.GroupFull made h.1)
  call_within request result made (inr (inr (inl h))) =
      within_more 4 5 (IsStepAt moments g) made (omega arith)
      (within_then 3 (IsStepAt moments g) (IsWaiting moments g request h.0) (IsSettled fallback_ends moments g h.0 request result)
      (waiting_at moments g request h.0) (settled_within h.0 request result) made h.1)
  call_within request result made (inr (inr (inr h))) =
      within_then 4 (IsStepAt moments g) (IsReceiptOf moments g (op.Submit request) (reply.Inline h.0)) (IsRunInline ends fallback_ends moments g h.0 request result)
      (step_at moments g (op.Submit request) (reply.Inline h.0)) (run_inline_within h.0 request result) made h.1

  -- a result that comes of a Collect answered so, and of nothing else
  record ComesOf (result : Result Answer CallError) (answered : Reply) : Type 0 where
    pub collected : (serial : ℕ) (made : List Receipt) → IsCollected moments g serial result made → Only (IsReceiptOf moments g (op.Collect serial) answered) made
    pub unrefused : (made : List Receipt) → IsRefused result made → ⊥
    pub waited : result ≢ Err error.Stopped
    pub roomy : result ≢ Err error.GroupFull

  answer_comes : (answer : Answer) → ComesOf (Ok answer) (reply.Answered answer)
  answer_comes answer = record {
    collected = λ serial made h. h;
    unrefused = λ made h. h;
    waited = λ e. (let f : Ok answer ≡ Err error.Stopped = e in absurd cc);
    roomy = λ e. (let f : Ok answer ≡ Err error.GroupFull = e in absurd cc);
  }

  taken_comes : ComesOf (Err error.Taken) reply.NoTicket
  taken_comes = record {
    collected = λ serial made h. h;
    unrefused = λ made h. h;
    waited = λ e. (let f : Err error.Taken ≡ Err error.Stopped = e in absurd cc);
    roomy = λ e. (let f : Err error.Taken ≡ Err error.GroupFull = e in absurd cc);
  }

  fallen_back_ends : (serial : ℕ) (cause : Cause) (request : Request) (result : Result Answer CallError) (answered : Reply) → ComesOf result answered → (made : List Receipt)
      → IsFallenBack fallback_ends moments g serial cause request result made → EndsIn (IsReceiptOf moments g (op.Collect serial) answered) made
  fallen_back_ends serial cause request result answered c made (inl h) = absurd (c.unrefused made h)
  fallen_back_ends serial cause request result answered c [] (inr h) = absurd h
  fallen_back_ends serial cause request result answered c (e ∷ rs) (inr h) =
      let Last : Receipt → Type 0 = IsReceiptOf moments g (op.Collect serial) answered in
      elim h.1 [
        | inl k ↦ ends_in_more Last e rs (ends_in_only Last rs (c.collected serial rs k))
        | inr k ↦ absurd (c.waited k.0)
      ]

  settled_ends : (serial : ℕ) (request : Request) (result : Result Answer CallError) (answered : Reply) → ComesOf result answered → (made : List Receipt)
      → IsSettled fallback_ends moments g serial request result made → EndsIn (IsReceiptOf moments g (op.Collect serial) answered) made
  settled_ends serial request result answered c made (inl h) = ends_in_only (IsReceiptOf moments g (op.Collect serial) answered) made (c.collected serial made h)
  settled_ends serial request result answered c [] (inr h) = absurd h.1
  settled_ends serial request result answered c (r ∷ rs) (inr h) =
      ends_in_more (IsReceiptOf moments g (op.Collect serial) answered) r rs (fallen_back_ends serial h.0 request result answered c rs h.1.1)

  run_inline_ends : (serial : ℕ) (request : Request) (result : Result Answer CallError) (answered : Reply) → ComesOf result answered → (made : List Receipt)
      → IsRunInline ends fallback_ends moments g serial request result made → EndsIn (IsReceiptOf moments g (op.Collect serial) answered) made
  run_inline_ends serial request result answered c made (inl h) = absurd (c.unrefused made h)
  run_inline_ends serial request result answered c [] (inr h) = absurd h
  run_inline_ends serial request result answered c (e ∷ rs) (inr h) = ends_in_more (IsReceiptOf moments g (op.Collect serial) answered) e rs (settled_ends serial request result answered c rs h.1)

  collects : (request : Request) (answered : Reply) (serial : ℕ) (r : Receipt) (rs : List Receipt) → SubmitsFor moments g request serial r → EndsIn (IsReceiptOf moments g (op.Collect serial) answered) rs
      → CollectsItsTicket moments g request answered (r ∷ rs)
  collects request answered serial r rs s e = record {
    serial = serial;
    first = r;
    between = e.before;
    last = e.last;
    is = ap (λ (x : List Receipt). r ∷ x) e.is;
    submit = s;
    collect = e.so;
  }

  call_collects : (request : Request) (result : Result Answer CallError) (answered : Reply) → ComesOf result answered → (made : List Receipt)
      → IsCallMade ends fallback_ends moments g request result made → CollectsItsTicket moments g request answered made
  call_collects request result answered c made (inl h) = absurd (c.unrefused made h)
  call_collects request result answered c made (inr (inl h)) = absurd (c.roomy h.0)
  call_collects request result answered c [] (inr (inr (inl h))) = absurd h.1
  call_collects request result answered c (r ∷ rs) (inr (inr (inl h))) =
      collects request answered h.0 r rs (waiting_names moments g request h.0 r h.1.0) (settled_ends h.0 request result answered c rs h.1.1)
  call_collects request result answered c [] (inr (inr (inr h))) = absurd h.1
  call_collects request result answered c (r ∷ rs) (inr (inr (inr h))) =
      collects request answered h.0 r rs (record { answered = reply.Inline h.0; names = refl; submitted = h.1.0 }) (run_inline_ends h.0 request result answered c rs h.1.1)

  abbrev no_slot : Result Answer CallError
  no_slot = Err error.GroupFull

  full : IsNoEnd moments no_slot
  full = record { refused = λ made h. h; collected = λ g serial made h. h; waited = λ e. (let f : no_slot ≡ Err error.Stopped = e in absurd cc) }

  no_slot_submits : (request : Request) (made : List Receipt) → IsCallMade ends fallback_ends moments g request no_slot made → Only (IsReceiptOf moments g (op.Submit request) reply.GroupFull) made
  no_slot_submits request made (inl h) = absurd h
  no_slot_submits request made (inr (inl h)) = h.1
  no_slot_submits request [] (inr (inr (inl h))) = absurd h.1
  no_slot_submits request (r ∷ rs) (inr (inr (inl h))) = absurd (settled_unended ends fallback_ends moments no_slot full g h.0 request rs h.1.1)
  no_slot_submits request [] (inr (inr (inr h))) = absurd h.1
  no_slot_submits request (r ∷ rs) (inr (inr (inr h))) = absurd (run_inline_unended ends fallback_ends moments no_slot full g h.0 request rs h.1.1)

  told : (request : Request) (result : Result Answer CallError) (made : List Receipt) → Within 5 (IsStepAt moments g) made → AreToldBy moments g request result made → IsTold moments g request result made
  told request result made w t = record { few = w.few; steps = w.all; told = t }

  -- the law of calls
  pub call_tells : (request : Request) (result : Result Answer CallError) (made : List Receipt) → IsCall ends fallback_ends moments g request result made → IsTold moments g request result made
  call_tells request (Ok answer) made h =
      told request (Ok answer) made (call_within request (Ok answer) made h) (call_collects request (Ok answer) (reply.Answered answer) (answer_comes answer) made h)
  call_tells request (Err error.Taken) made h =
      told request (Err error.Taken) made (call_within request (Err error.Taken) made h) (call_collects request (Err error.Taken) reply.NoTicket taken_comes made h)
  call_tells request (Err error.GroupFull) made h = told request (Err error.GroupFull) made (call_within request (Err error.GroupFull) made h) (no_slot_submits request made h)
  call_tells request (Err error.PassFull) made h = told request (Err error.PassFull) made (within_nothing 5 (IsStepAt moments g) made h) h
  call_tells request (Err error.NoCommand) made h = told request (Err error.NoCommand) made (within_nothing 5 (IsStepAt moments g) made h.0) h.0
  call_tells request (Err error.Worn) made h = told request (Err error.Worn) made (call_within request (Err error.Worn) made h) tt
  call_tells request (Err error.NoGroup) made h = told request (Err error.NoGroup) made (call_within request (Err error.NoGroup) made h) tt
  call_tells request (Err error.Stopped) made h = told request (Err error.Stopped) made (call_within request (Err error.Stopped) made h) tt
