-- The parts of a call, one after another.
use Rattle.std.proofs.Common.{◌≡◌, ◌≢◌, ℕ, Bool, true, false, List, [], ◌∷◌, inl, inr, refl, ap, ◌∙◌, subst, arith}
use Rattle.std.specs.Prelude.{Result, Ok, Err}
use Rattle.bh_base.specs.declared.step.GroupId.{GroupId}
use Rattle.bh_base.specs.declared.step.Op.{Op}
use Rattle.bh_base.specs.declared.step.Op.TheVariants as op
use Rattle.bh_base.specs.declared.step.FallbackEnd.{FallbackEnd}
use Rattle.bh_base.specs.declared.step.Request.{Request}
use Rattle.bh_base.specs.declared.step.RunEnd.{RunEnd}
use Rattle.bh_base.specs.declared.step.RunEnd.TheVariants as run_end
use Rattle.bh_base.specs.declared.reply.Answer.{Answer}
use Rattle.bh_base.specs.declared.reply.CallError.{CallError}
use Rattle.bh_base.specs.declared.reply.CallError.TheVariants as error
use Rattle.bh_base.specs.declared.reply.Cause.{Cause}
use Rattle.bh_base.specs.declared.reply.Reply.{Reply}
use Rattle.bh_base.specs.declared.reply.Reply.TheVariants as reply
use Rattle.bh_journal.specs.declared.pass.Marks.{Marks}
use Rattle.bh_journal.specs.declared.pass.Receipt.{Receipt}
use Rattle.bh_journal.specs.Passes.{PassView, marked_worn, marked_no_group}
use Rattle.bh_audit.specs.Calls.{AddsCollect, CanBeMissing}
use Rattle.bh_base.specs.Replies.{can_reply, is_refusal}
use Rattle.bh_workers.specs.Receipts.{IsReceiptOf, IsRunEnd, StepAdds, StepTaken, end_op}
use Rattle.bh_workers.specs.Calls.{CallAdds, IsCall, IsCallMade, IsCollected, IsCollectedLast, IsFallbackEnd, IsFallenBack, IsRefused, IsRunInline, IsSettled, IsWaiting, MarksAre, Only, Then, result_of}
use Rattle.bh_workers.specs.Collecting.{IsCollectMade}
use Rattle.bh_workers.proofs.Adding.{Gains-append, added_receipt, none_by_no_group, none_by_same, none_by_worn, taken}

-- marks that are so after a part of a call are so after the whole of it
marks_then : (result : Result Answer CallError) (r : Receipt) (made : List Receipt) (m n k : Marks) → n ≡ m → MarksAre result made n k → MarksAre result (r ∷ made) m k
marks_then (Ok answer) r made m n k same is = is ∙ same
marks_then (Err error.GroupFull) r made m n k same is = is ∙ same
marks_then (Err error.PassFull) r made m n k same is = is ∙ same
marks_then (Err error.NoCommand) r made m n k same is = is ∙ same
marks_then (Err error.Taken) r made m n k same is = is ∙ same
marks_then (Err error.Worn) r made m n k same is = is ∙ ap (λ (x : Marks). record x { worn = true }) same
marks_then (Err error.NoGroup) r made m n k same is = is ∙ ap (λ (x : Marks). record x { no_group = true }) same
marks_then (Err error.Stopped) r made m n k same (inl is) = inl (is ∙ ap (λ (x : Marks). record x { stopped = true }) same)
marks_then (Err error.Stopped) r made m n k same (inr is) =
    inr (
      is.0 ∙ same,
      record { before = r ∷ is.1.before; last = is.1.last; is = ap (λ (xs : List Receipt). r ∷ xs) is.1.is; cause = is.1.cause; reply = is.1.reply },
    )

-- a step, and then the rest of a call
pub step_then : (moments : ℕ → Type 0) (a : Bool) (p m q : PassView) (o : Op) (answer : Reply) (result : Result Answer CallError)
    (First : Receipt → Type 0) (Rest : List Receipt → Type 0)
    → (t : StepTaken moments a p o answer m) → First t.receipt → CallAdds a m result q Rest → CallAdds a p result q (Then First Rest)
step_then moments a p m q o answer result First Rest t first k = record {
  made = t.receipt ∷ k.made;
  gains = Gains-append a p m q (t.receipt ∷ []) k.made t.gains k.gains;
  marks = marks_then result t.receipt k.made p.marks m.marks q.marks t.marks k.marks;
  is = (first, k.is);
}

-- what is added is so in other words too
pub in_other_words : (a : Bool) (p q : PassView) (result : Result Answer CallError) (IsSo IsThus : List Receipt → Type 0)
    → ((made : List Receipt) → IsSo made → IsThus made) → CallAdds a p result q IsSo → CallAdds a p result q IsThus
in_other_words a p q result IsSo IsThus f k = record { made = k.made; gains = k.gains; marks = k.marks; is = f k.made k.is }

-- what is so of the one group is so of the other, which is the same
pub of_group : (a : Bool) (p q : PassView) (g g' : GroupId) (result : Result Answer CallError) (IsSo : GroupId → List Receipt → Type 0) → g ≡ g' → CallAdds a p result q (IsSo g) → CallAdds a p result q (IsSo g')
of_group a p q g g' result IsSo same k = (let P : GroupId → Type 0 = λ x. CallAdds a p result q (IsSo x) in subst P same k)

-- the last step of a call
pub step_only : (moments : ℕ → Type 0) (a : Bool) (p q : PassView) (o : Op) (answer : Reply) (result : Result Answer CallError)
    → (t : StepTaken moments a p o answer q) → MarksAre result (t.receipt ∷ []) p.marks q.marks → CallAdds a p result q (Only (IsReceiptOf moments p.group o answer))
step_only moments a p q o answer result t marks = record { made = t.receipt ∷ []; gains = t.gains; marks = marks; is = (t.is, refl) }

-- a step that was refused
pub refused_worn : (a : Bool) (p q : PassView) → q ≡ marked_worn p → CallAdds a p (Err error.Worn) q (IsRefused (Err error.Worn))
refused_worn a p q h = record { made = []; gains = none_by_worn a p q h; marks = ap (λ (x : PassView). x.marks) h; is = refl }

-- and one of a group that is not registered
pub refused_no_group : (a : Bool) (p q : PassView) → q ≡ marked_no_group p → CallAdds a p (Err error.NoGroup) q (IsRefused (Err error.NoGroup))
refused_no_group a p q h = record { made = []; gains = none_by_no_group a p q h; marks = ap (λ (x : PassView). x.marks) h; is = refl }

module _ (moments : ℕ → Type 0) where
  -- a Collect that gave the answer
  pub collect_answered : (a : Bool) (p q : PassView) (serial : ℕ) (answer : Answer) → AddsCollect moments a p serial (reply.Answered answer) q
      → CallAdds a p (Ok answer) q (IsCollected moments p.group serial (Ok answer))
  collect_answered a p q serial answer h =
      let t = added_receipt moments a p q (op.Collect serial) h.0 (reply.Answered answer) h.1 h.2 in
      step_only moments a p q (op.Collect serial) (reply.Answered answer) (Ok answer) t t.marks

  -- a Collect that found no ticket
  pub collect_taken : (a : Bool) (p q : PassView) (serial : ℕ) → AddsCollect moments a p serial reply.NoTicket q
      → CallAdds a p (Err error.Taken) q (IsCollected moments p.group serial (Err error.Taken))
  collect_taken a p q serial h =
      let t = added_receipt moments a p q (op.Collect serial) h.0 reply.NoTicket h.1 h.2 in
      step_only moments a p q (op.Collect serial) reply.NoTicket (Err error.Taken) t t.marks

  -- a Collect by which a fallback is to be run
  pub collect_fallback : (a : Bool) (p q : PassView) (serial : ℕ) (cause : Cause) → AddsCollect moments a p serial (reply.RunFallback cause) q
      → StepTaken moments a p (op.Collect serial) (reply.RunFallback cause) q
  collect_fallback a p q serial cause h = added_receipt moments a p q (op.Collect serial) h.0 (reply.RunFallback cause) h.1 h.2

  -- a Collect of a service that was stopped
  pub collect_pending : (a : Bool) (p q : PassView) (serial : ℕ) → AddsCollect moments a p serial reply.Pending q
      → CallAdds a p (Err error.Stopped) q (IsCollected moments p.group serial (Err error.Stopped))
  collect_pending a p q serial h =
      let m : PassView = h.1 in
      let t = added_receipt moments a p m (op.Collect serial) h.0 reply.Pending h.2 h.3 in
      let marked : q.marks ≡ record m.marks { stopped = true } = ap (λ (x : PassView). x.marks) h.4 in
      record {
        made = t.receipt ∷ [];
        gains = record {
          group = ap (λ (x : PassView). x.group) h.4 ∙ t.gains.group;
          receipts = ap (λ (x : PassView). x.receipts) h.4 ∙ t.gains.receipts;
          room = (let e : q.room ≡ m.room = ap (λ (x : PassView). x.room) h.4 in let r = t.gains.room in omega arith);
        };
        marks = inl (marked ∙ ap (λ (x : Marks). record x { stopped = true }) t.marks);
        is = (t.is, refl);
      }

  -- a fallback that is due once more ends the call
  pub gives_up : (a : Bool) (p q : PassView) (serial : ℕ) (cause : Cause) → StepTaken moments a p (op.Collect serial) (reply.RunFallback cause) q
      → CallAdds a p (Err error.Stopped) q (Only (IsReceiptOf moments p.group (op.Collect serial) (reply.RunFallback cause)))
  gives_up a p q serial cause t =
      step_only moments a p q (op.Collect serial) (reply.RunFallback cause) (Err error.Stopped) t
      (inr (t.marks, record { before = []; last = t.receipt; is = refl; cause = cause; reply = t.is.reply }))

  -- a Collect that ends the call
  ends : (a : Bool) (p q : PassView) (serial : ℕ) (r : Reply) → ((cause : Cause) → r ≢ reply.RunFallback cause)
      → CallAdds a p (result_of r) q (IsCollected moments p.group serial (result_of r)) → IsCollectMade moments a p serial r q
  ends a p q serial r other k =
      let result = result_of r in
      record {
        due = λ cause is. absurd (other cause is);
        over = λ o. k;
        last = in_other_words a p q result (IsCollected moments p.group serial result) (IsCollectedLast moments p.group serial result) (λ made h. inl h) k;
      }

  -- a Collect, by its reply
  pub collects : (a : Bool) (p q : PassView) (serial : ℕ) (r : Reply) → can_reply (op.Collect serial) r ≡ true → r ≢ reply.NoCommand → AddsCollect moments a p serial r q
      → IsCollectMade moments a p serial r q
  collects a p q serial (reply.Answered answer) can known h =
      ends a p q serial (reply.Answered answer) (λ cause is. (let e : reply.Answered answer ≡ reply.RunFallback cause = is in cc)) (collect_answered a p q serial answer h)
  collects a p q serial reply.NoTicket can known h = ends a p q serial reply.NoTicket (λ cause is. (let e : reply.NoTicket ≡ reply.RunFallback cause = is in cc)) (collect_taken a p q serial h)
  collects a p q serial reply.Pending can known h = ends a p q serial reply.Pending (λ cause is. (let e : reply.Pending ≡ reply.RunFallback cause = is in cc)) (collect_pending a p q serial h)
  collects a p q serial reply.Worn can known h = ends a p q serial reply.Worn (λ cause is. (let e : reply.Worn ≡ reply.RunFallback cause = is in cc)) (refused_worn a p q h.2)
  collects a p q serial reply.NoGroup can known h = ends a p q serial reply.NoGroup (λ cause is. (let e : reply.NoGroup ≡ reply.RunFallback cause = is in cc)) (refused_no_group a p q h.2)
  collects a p q serial (reply.RunFallback cause) can known h =
      let t = collect_fallback a p q serial cause h in
      record {
        due = λ due is. rw is at t;
        over = λ other. absurd (other cause refl);
        last = in_other_words a p q (Err error.Stopped) (Only (IsReceiptOf moments p.group (op.Collect serial) (reply.RunFallback cause)))
            (IsCollectedLast moments p.group serial (Err error.Stopped)) (λ made h. inr (refl, (cause, h))) (gives_up a p q serial cause t);
      }
  collects a p q serial reply.NoCommand can known h = absurd (known refl)
  collects a p q serial (reply.Queued x) can known h = (let no : false ≡ true = can in cc)
  collects a p q serial (reply.Inline x) can known h = (let no : false ≡ true = can in cc)
  collects a p q serial (reply.FallbackDue x y) can known h = (let no : false ≡ true = can in cc)
  collects a p q serial (reply.Joined x) can known h = (let no : false ≡ true = can in cc)
  collects a p q serial reply.GroupFull can known h = (let no : false ≡ true = can in cc)
  collects a p q serial (reply.Assigned x y z) can known h = (let no : false ≡ true = can in cc)
  collects a p q serial reply.Idle can known h = (let no : false ≡ true = can in cc)
  collects a p q serial reply.Done can known h = (let no : false ≡ true = can in cc)
  collects a p q serial reply.Late can known h = (let no : false ≡ true = can in cc)
  collects a p q serial reply.NotRunning can known h = (let no : false ≡ true = can in cc)
  collects a p q serial (reply.Expired x) can known h = (let no : false ≡ true = can in cc)
  collects a p q serial reply.NotInFallback can known h = (let no : false ≡ true = can in cc)
  collects a p q serial (reply.Closed x) can known h = (let no : false ≡ true = can in cc)
  collects a p q serial (reply.Metrics x) can known h = (let no : false ≡ true = can in cc)
  collects a p q serial (reply.Totals x) can known h = (let no : false ≡ true = can in cc)
  collects a p q serial reply.Tuned can known h = (let no : false ≡ true = can in cc)
  collects a p q serial reply.OutOfRange can known h = (let no : false ≡ true = can in cc)

-- a result that comes of no refusal and of no Collect
pub record IsNoEnd (moments : ℕ → Type 0) (result : Result Answer CallError) : Type 0 where
  pub refused : (made : List Receipt) → IsRefused result made → ⊥
  pub collected : (g : GroupId) (serial : ℕ) (made : List Receipt) → IsCollected moments g serial result made → ⊥
  pub waited : result ≢ Err error.Stopped

-- so it comes of no call that has a ticket
module _ (ends : GroupId → ℕ → List ℕ → RunEnd → Type 0) (fallback_ends : GroupId → ℕ → Cause → List ℕ → FallbackEnd → Type 0) (moments : ℕ → Type 0) where
  collected_last_unended : (result : Result Answer CallError) → IsNoEnd moments result → (g : GroupId) (serial : ℕ) (made : List Receipt) → IsCollectedLast moments g serial result made → ⊥
  collected_last_unended result never g serial made (inl h) = never.collected g serial made h
  collected_last_unended result never g serial made (inr h) = never.waited h.0

  fallen_back_unended : (result : Result Answer CallError) → IsNoEnd moments result → (g : GroupId) (serial : ℕ) (cause : Cause) (request : Request) (made : List Receipt)
      → IsFallenBack fallback_ends moments g serial cause request result made → ⊥
  fallen_back_unended result never g serial cause request made (inl h) = never.refused made h
  fallen_back_unended result never g serial cause request [] (inr h) = h
  fallen_back_unended result never g serial cause request (r ∷ rs) (inr h) = collected_last_unended result never g serial rs h.1

  pub settled_unended : (result : Result Answer CallError) → IsNoEnd moments result → (g : GroupId) (serial : ℕ) (request : Request) (made : List Receipt)
      → IsSettled fallback_ends moments g serial request result made → ⊥
  settled_unended result never g serial request made (inl h) = never.collected g serial made h
  settled_unended result never g serial request [] (inr h) = h.1
  settled_unended result never g serial request (r ∷ rs) (inr h) = fallen_back_unended result never g serial h.0 request rs h.1.1

  pub run_inline_unended : (result : Result Answer CallError) → IsNoEnd moments result → (g : GroupId) (serial : ℕ) (request : Request) (made : List Receipt)
      → IsRunInline ends fallback_ends moments g serial request result made → ⊥
  run_inline_unended result never g serial request made (inl h) = never.refused made h
  run_inline_unended result never g serial request [] (inr h) = h
  run_inline_unended result never g serial request (r ∷ rs) (inr h) = settled_unended result never g serial request rs h.1

  call_unended : (result : Result Answer CallError) → IsNoEnd moments result → result ≢ Err error.GroupFull → (g : GroupId) (request : Request) (made : List Receipt)
      → IsCallMade ends fallback_ends moments g request result made → ⊥
  call_unended result never roomy g request made (inl h) = never.refused made h
  call_unended result never roomy g request made (inr (inl h)) = roomy h.0
  call_unended result never roomy g request [] (inr (inr (inl h))) = h.1
  call_unended result never roomy g request (r ∷ rs) (inr (inr (inl h))) = settled_unended result never g h.0 request rs h.1.1
  call_unended result never roomy g request [] (inr (inr (inr h))) = h.1
  call_unended result never roomy g request (r ∷ rs) (inr (inr (inr h))) = run_inline_unended result never g h.0 request rs h.1.1

  -- a call that submitted its request does not end as a full pass
  call_unfull : (g : GroupId) (request : Request) (made : List Receipt) → IsCallMade ends fallback_ends moments g request (Err error.PassFull) made → ⊥
  call_unfull =
      let full : Result Answer CallError = Err error.PassFull in
      let never : IsNoEnd moments full = record { refused = λ made h. h; collected = λ g serial made h. h; waited = λ e. (let f : full ≡ Err error.Stopped = e in cc) } in
      call_unended full never (λ e. (let f : full ≡ Err error.GroupFull = e in cc))

  -- nor as one whose command is missing, where the Submit was not refused so
  call_unmissing : (g : GroupId) (request : Request) (made : List Receipt) → IsCallMade ends fallback_ends moments g request (Err error.NoCommand) made → ⊥
  call_unmissing =
      let missing : Result Answer CallError = Err error.NoCommand in
      let never : IsNoEnd moments missing = record { refused = λ made h. h; collected = λ g serial made h. h; waited = λ e. (let f : missing ≡ Err error.Stopped = e in cc) } in
      call_unended missing never (λ e. (let f : missing ≡ Err error.GroupFull = e in cc))

  call_made : (g : GroupId) (request : Request) (result : Result Answer CallError) (made : List Receipt) → IsCallMade ends fallback_ends moments g request result made
      → IsCall ends fallback_ends moments g request result made
  call_made g request (Ok answer) made h = h
  call_made g request (Err error.GroupFull) made h = h
  call_made g request (Err error.Worn) made h = h
  call_made g request (Err error.PassFull) made h = absurd (call_unfull g request made h)
  call_made g request (Err error.NoCommand) made h = absurd (call_unmissing g request made h)
  call_made g request (Err error.Stopped) made h = h
  call_made g request (Err error.Taken) made h = h
  call_made g request (Err error.NoGroup) made h = h

  -- what was made is a call
  pub call_is : (a : Bool) (p q : PassView) (request : Request) (result : Result Answer CallError)
      → CallAdds a p result q (IsCallMade ends fallback_ends moments p.group request result)
      → CallAdds a p result q (IsCall ends fallback_ends moments p.group request result)
  call_is a p q request result k =
      in_other_words a p q result (IsCallMade ends fallback_ends moments p.group request result) (IsCall ends fallback_ends moments p.group request result) (call_made p.group request result) k

  -- a collect after a fallback's end
  pub falls_back : (a : Bool) (p m q : PassView) (g : GroupId) (serial : ℕ) (cause : Cause) (request : Request) (end : FallbackEnd) (answer : Reply) (result : Result Answer CallError)
      → is_refusal answer ≡ false → g ≡ p.group → fallback_ends g request.command cause request.arg end → StepAdds moments a p (op.FallbackDone serial end) answer m
      → CallAdds a m result q (IsCollectedLast moments m.group serial result)
      → CallAdds a p result q (IsFallenBack fallback_ends moments p.group serial cause request result)
  falls_back a p m q g serial cause request end answer result accepted same possible h k =
      let t = taken moments a p m (op.FallbackDone serial end) answer accepted h in
      let told : IsFallbackEnd fallback_ends moments p.group serial cause request t.receipt =
      record { end = end; answered = answer; possible = (let P : GroupId → Type 0 = λ x. fallback_ends x request.command cause request.arg end in subst P same possible); told = t.is } in
      let Last : GroupId → List Receipt → Type 0 = λ x. IsCollectedLast moments x serial result in
      in_other_words a p q result (Then (IsFallbackEnd fallback_ends moments p.group serial cause request) (Last p.group)) (IsFallenBack fallback_ends moments p.group serial cause request result) (λ made h. inr h)
      (step_then moments a p m q (op.FallbackDone serial end) answer result (IsFallbackEnd fallback_ends moments p.group serial cause request) (Last p.group) t told
      (of_group a m q m.group p.group result Last t.gains.group k))

  -- a fallback after a Collect
  pub settles : (a : Bool) (p m q : PassView) (serial : ℕ) (cause : Cause) (request : Request) (result : Result Answer CallError)
      → StepTaken moments a p (op.Collect serial) (reply.RunFallback cause) m
      → CallAdds a m result q (IsFallenBack fallback_ends moments m.group serial cause request result)
      → CallAdds a p result q (IsSettled fallback_ends moments p.group serial request result)
  settles a p m q serial cause request result t k =
      let First : Receipt → Type 0 = IsReceiptOf moments p.group (op.Collect serial) (reply.RunFallback cause) in
      let Rest : GroupId → List Receipt → Type 0 = λ x. IsFallenBack fallback_ends moments x serial cause request result in
      in_other_words a p q result (Then First (Rest p.group)) (IsSettled fallback_ends moments p.group serial request result) (λ made h. inr (cause, h))
      (step_then moments a p m q (op.Collect serial) (reply.RunFallback cause) result First (Rest p.group) t t.is (of_group a m q m.group p.group result Rest t.gains.group k))

  -- an answer after the end of a run by the caller
  pub runs_inline : (a : Bool) (p m q : PassView) (g : GroupId) (serial : ℕ) (request : Request) (end : RunEnd) (answer : Reply) (result : Result Answer CallError)
      → is_refusal answer ≡ false → g ≡ p.group → ends g request.command request.arg end → StepAdds moments a p (end_op serial end) answer m
      → CallAdds a m result q (IsSettled fallback_ends moments m.group serial request result)
      → CallAdds a p result q (IsRunInline ends fallback_ends moments p.group serial request result)
  runs_inline a p m q g serial request end answer result accepted same possible h k =
      let t = taken moments a p m (end_op serial end) answer accepted h in
      let told : IsRunEnd ends moments p.group serial request.command request.arg t.receipt =
      record { end = end; answered = answer; possible = (let P : GroupId → Type 0 = λ x. ends x request.command request.arg end in subst P same possible); told = t.is } in
      let Rest : GroupId → List Receipt → Type 0 = λ x. IsSettled fallback_ends moments x serial request result in
      in_other_words a p q result (Then (IsRunEnd ends moments p.group serial request.command request.arg) (Rest p.group)) (IsRunInline ends fallback_ends moments p.group serial request result) (λ made h. inr h)
      (step_then moments a p m q (end_op serial end) answer result (IsRunEnd ends moments p.group serial request.command request.arg) (Rest p.group) t told
      (of_group a m q m.group p.group result Rest t.gains.group k))

  -- an answer after a Submit that asks for nothing else
  pub waits : (a : Bool) (p m q : PassView) (request : Request) (serial : ℕ) (answer : Reply) (result : Result Answer CallError)
      → is_refusal answer ≡ false → StepAdds moments a p (op.Submit request) answer m
      → ((r : Receipt) → IsReceiptOf moments p.group (op.Submit request) answer r → IsWaiting moments p.group request serial r)
      → CallAdds a m result q (IsSettled fallback_ends moments m.group serial request result)
      → CallAdds a p result q (IsCallMade ends fallback_ends moments p.group request result)
  waits a p m q request serial answer result accepted h names k =
      let t = taken moments a p m (op.Submit request) answer accepted h in
      let Rest : GroupId → List Receipt → Type 0 = λ x. IsSettled fallback_ends moments x serial request result in
      in_other_words a p q result (Then (IsWaiting moments p.group request serial) (Rest p.group)) (IsCallMade ends fallback_ends moments p.group request result) (λ made h. inr (inr (inl (serial, h))))
      (step_then moments a p m q (op.Submit request) answer result (IsWaiting moments p.group request serial) (Rest p.group) t (names t.receipt t.is)
      (of_group a m q m.group p.group result Rest t.gains.group k))

  -- a run by the caller after a Submit that asks for it
  pub runs : (a : Bool) (p m q : PassView) (request : Request) (serial : ℕ) (result : Result Answer CallError)
      → StepAdds moments a p (op.Submit request) (reply.Inline serial) m
      → CallAdds a m result q (IsRunInline ends fallback_ends moments m.group serial request result)
      → CallAdds a p result q (IsCallMade ends fallback_ends moments p.group request result)
  runs a p m q request serial result h k =
      let t = taken moments a p m (op.Submit request) (reply.Inline serial) refl h in
      let First : Receipt → Type 0 = IsReceiptOf moments p.group (op.Submit request) (reply.Inline serial) in
      let Rest : GroupId → List Receipt → Type 0 = λ x. IsRunInline ends fallback_ends moments x serial request result in
      in_other_words a p q result (Then First (Rest p.group)) (IsCallMade ends fallback_ends moments p.group request result) (λ made h. inr (inr (inr (serial, h))))
      (step_then moments a p m q (op.Submit request) (reply.Inline serial) result First (Rest p.group) t t.is (of_group a m q m.group p.group result Rest t.gains.group k))

  -- a Submit for which there is no slot
  pub finds_full : (a : Bool) (p q : PassView) (request : Request) → StepAdds moments a p (op.Submit request) reply.GroupFull q
      → CallAdds a p (Err error.GroupFull) q (IsCall ends fallback_ends moments p.group request (Err error.GroupFull))
  finds_full a p q request h =
      let t = taken moments a p q (op.Submit request) reply.GroupFull refl h in
      record { made = t.receipt ∷ []; gains = t.gains; marks = t.marks; is = inr (inl (refl, (t.is, refl))) }

  -- one of a worn group
  pub finds_worn : (a : Bool) (p q : PassView) (request : Request) → StepAdds moments a p (op.Submit request) reply.Worn q
      → CallAdds a p (Err error.Worn) q (IsCall ends fallback_ends moments p.group request (Err error.Worn))
  finds_worn a p q request h =
      in_other_words a p q (Err error.Worn) (IsRefused (Err error.Worn)) (IsCall ends fallback_ends moments p.group request (Err error.Worn)) (λ made k. inl k) (refused_worn a p q h.2)

  -- one of a group that is not registered
  pub finds_no_group : (a : Bool) (p q : PassView) (request : Request) → StepAdds moments a p (op.Submit request) reply.NoGroup q
      → CallAdds a p (Err error.NoGroup) q (IsCall ends fallback_ends moments p.group request (Err error.NoGroup))
  finds_no_group a p q request h =
      in_other_words a p q (Err error.NoGroup) (IsRefused (Err error.NoGroup)) (IsCall ends fallback_ends moments p.group request (Err error.NoGroup)) (λ made k. inl k) (refused_no_group a p q h.2)

  -- a Submit of a command that the group lacks
  pub finds_missing : (a : Bool) (p q : PassView) (request : Request) → StepAdds moments a p (op.Submit request) reply.NoCommand q → CanBeMissing (op.Submit request)
      → CallAdds a p (Err error.NoCommand) q (IsCall ends fallback_ends moments p.group request (Err error.NoCommand))
  finds_missing a p q request h lacks =
      record { made = []; gains = none_by_same a p q h.2; marks = ap (λ (x : PassView). x.marks) h.2; is = (refl, lacks) }

-- the end of a run names no command
pub end_known : (serial : ℕ) (end : RunEnd) → CanBeMissing (end_op serial end) → ⊥
end_known serial (run_end.Success body) h = (let both : true ≡ false = h.2 in cc)
end_known serial run_end.Failure h = (let both : true ≡ false = h.2 in cc)
end_known serial run_end.BadRequest h = (let both : true ≡ false = h.2 in cc)

-- nor does that of a fallback
pub fallback_end_known : (serial : ℕ) (end : FallbackEnd) → CanBeMissing (op.FallbackDone serial end) → ⊥
fallback_end_known serial end h = (let both : true ≡ false = h.2 in cc)

-- a reply that is no refusal was accepted
pub accepted_reply : (r : Reply) → r ≢ reply.Worn → r ≢ reply.NoGroup → r ≢ reply.NoCommand → is_refusal r ≡ false
accepted_reply (reply.Queued x) w n m = refl
accepted_reply (reply.Inline x) w n m = refl
accepted_reply (reply.FallbackDue x y) w n m = refl
accepted_reply (reply.Joined x) w n m = refl
accepted_reply reply.GroupFull w n m = refl
accepted_reply (reply.Assigned x y z) w n m = refl
accepted_reply reply.Idle w n m = refl
accepted_reply reply.Done w n m = refl
accepted_reply reply.Late w n m = refl
accepted_reply reply.NotRunning w n m = refl
accepted_reply (reply.Expired x) w n m = refl
accepted_reply reply.Pending w n m = refl
accepted_reply (reply.RunFallback x) w n m = refl
accepted_reply (reply.Answered x) w n m = refl
accepted_reply reply.NoTicket w n m = refl
accepted_reply reply.NotInFallback w n m = refl
accepted_reply (reply.Closed x) w n m = refl
accepted_reply (reply.Metrics x) w n m = refl
accepted_reply (reply.Totals x) w n m = refl
accepted_reply reply.Tuned w n m = refl
accepted_reply reply.OutOfRange w n m = refl
accepted_reply reply.Worn w n m = absurd (w refl)
accepted_reply reply.NoGroup w n m = absurd (n refl)
accepted_reply reply.NoCommand w n m = absurd (m refl)
