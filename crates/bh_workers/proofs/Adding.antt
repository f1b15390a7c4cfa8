-- What single steps add to a pass, and that additions follow one another.
use Rattle.std.proofs.Common.{◌≡◌, ℕ, ◌+◌, ◌-◌, Bool, true, false, List, [], ◌++◌, length, length-append, refl, sym, ap, ◌∙◌, append_assoc, append-nil, arith}
use Rattle.bh_base.specs.declared.step.Step.{Step}
use Rattle.bh_base.specs.declared.step.Op.{Op}
use Rattle.bh_base.specs.declared.reply.Reply.{Reply}
use Rattle.bh_base.specs.declared.reply.Reply.TheVariants as reply
use Rattle.bh_base.specs.Replies.{is_refusal}
use Rattle.bh_journal.specs.declared.pass.Receipt.{Receipt}
use Rattle.bh_journal.specs.Passes.{PassView, Adds, AddsReceipt, receipt_of, marked_worn, marked_no_group, marked_stopped}
use Rattle.bh_audit.specs.Calls.{step_at}
use Rattle.bh_workers.specs.Receipts.{Gains, StepAdds, StepTaken, kept}

-- a receipt that was added is that of a step which was not refused
pub added_receipt : (moments : ℕ → Type 0) (a : Bool) (p q : PassView) (o : Op) (m : ℕ) (r : Reply) → moments m → AddsReceipt a p (step_at p.group m o) r q → StepTaken moments a p o r q
added_receipt moments true p q o m r named h = record {
  receipt = receipt_of h.0 (step_at p.group m o) r;
  gains = record {
    group = ap (λ (x : PassView). x.group) h.1;
    receipts = ap (λ (x : PassView). x.receipts) h.1;
    room = (let e : q.room ≡ p.room - 1 = ap (λ (x : PassView). x.room) h.1 in omega arith);
  };
  is = record { moment = m; named = named; step = refl; reply = refl };
  marks = ap (λ (x : PassView). x.marks) h.1;
}
added_receipt moments false p q o m r named h = record {
  receipt = receipt_of 0 (step_at p.group m o) r;
  gains = record {
    group = ap (λ (x : PassView). x.group) h;
    receipts = ap (λ (x : PassView). x.receipts) h ∙ sym (append-nil p.receipts);
    room = (let e : q.room ≡ p.room = ap (λ (x : PassView). x.room) h in omega arith);
  };
  is = record { moment = m; named = named; step = refl; reply = refl };
  marks = ap (λ (x : PassView). x.marks) h;
}

-- a reply that is no refusal comes with a receipt
pub adds_taken : (a : Bool) (p q : PassView) (s : Step) (r : Reply) → is_refusal r ≡ false → Adds a p s r q → AddsReceipt a p s r q
adds_taken a p q s (reply.Queued x) t h = h
adds_taken a p q s (reply.Inline x) t h = h
adds_taken a p q s (reply.FallbackDue x y) t h = h
adds_taken a p q s (reply.Joined x) t h = h
adds_taken a p q s reply.GroupFull t h = h
adds_taken a p q s (reply.Assigned x y z) t h = h
adds_taken a p q s reply.Idle t h = h
adds_taken a p q s reply.Done t h = h
adds_taken a p q s reply.Late t h = h
adds_taken a p q s reply.NotRunning t h = h
adds_taken a p q s (reply.Expired x) t h = h
adds_taken a p q s reply.Pending t h = h
adds_taken a p q s (reply.RunFallback x) t h = h
adds_taken a p q s (reply.Answered x) t h = h
adds_taken a p q s reply.NoTicket t h = h
adds_taken a p q s reply.NotInFallback t h = h
adds_taken a p q s (reply.Closed x) t h = h
adds_taken a p q s (reply.Metrics x) t h = h
adds_taken a p q s (reply.Totals x) t h = h
adds_taken a p q s reply.Tuned t h = h
adds_taken a p q s reply.OutOfRange t h = h
adds_taken a p q s reply.Worn t h = absurd (let e : true ≡ false = t in cc)
adds_taken a p q s reply.NoGroup t h = absurd (let e : true ≡ false = t in cc)
adds_taken a p q s reply.NoCommand t h = absurd (let e : true ≡ false = t in cc)

-- a step of the pass's own group that was no refusal
pub taken : (moments : ℕ → Type 0) (a : Bool) (p q : PassView) (o : Op) (r : Reply) → is_refusal r ≡ false → StepAdds moments a p o r q → StepTaken moments a p o r q
taken moments a p q o r t h = added_receipt moments a p q o h.0 r h.1 (adds_taken a p q (step_at p.group h.0 o) r t h.2)

-- nothing was added
pub none_gained : (a : Bool) (p q : PassView) → q.group ≡ p.group → q.receipts ≡ p.receipts → q.room ≡ p.room → Gains a p q []
none_gained true p q g r e = record { group = g; receipts = r ∙ sym (append-nil p.receipts); room = omega arith }
none_gained false p q g r e = record { group = g; receipts = r ∙ sym (append-nil p.receipts); room = omega arith }

-- the mark of a worn group comes with no receipt
pub none_by_worn : (a : Bool) (p q : PassView) → q ≡ marked_worn p → Gains a p q []
none_by_worn a p q h = none_gained a p q (ap (λ (x : PassView). x.group) h) (ap (λ (x : PassView). x.receipts) h) (ap (λ (x : PassView). x.room) h)

-- nor does that of a group which is not registered
pub none_by_no_group : (a : Bool) (p q : PassView) → q ≡ marked_no_group p → Gains a p q []
none_by_no_group a p q h = none_gained a p q (ap (λ (x : PassView). x.group) h) (ap (λ (x : PassView). x.receipts) h) (ap (λ (x : PassView). x.room) h)

-- nor does that of a service which was stopped
pub none_by_stopped : (a : Bool) (p q : PassView) → q ≡ marked_stopped p → Gains a p q []
none_by_stopped a p q h = none_gained a p q (ap (λ (x : PassView). x.group) h) (ap (λ (x : PassView). x.receipts) h) (ap (λ (x : PassView). x.room) h)

-- nor is there one where the pass is the same
pub none_by_same : (a : Bool) (p q : PassView) → q ≡ p → Gains a p q []
none_by_same a p q h = none_gained a p q (ap (λ (x : PassView). x.group) h) (ap (λ (x : PassView). x.receipts) h) (ap (λ (x : PassView). x.room) h)

-- what is kept of two lists is kept of each
pub kept-append : (a : Bool) (xs ys : List Receipt) → kept a (xs ++ ys) ≡ kept a xs ++ kept a ys
kept-append true xs ys = refl
kept-append false xs ys = refl

-- one addition after another
pub Gains-append : (a : Bool) (p m q : PassView) (xs ys : List Receipt) → Gains a p m xs → Gains a m q ys → Gains a p q (xs ++ ys)
Gains-append a p m q xs ys h k = record {
  group = k.group ∙ h.group;
  receipts = k.receipts ∙ ap (λ (x : List Receipt). x ++ kept a ys) h.receipts ∙ append_assoc p.receipts (kept a xs) (kept a ys) ∙ ap (λ (x : List Receipt). p.receipts ++ x) (sym (kept-append a xs ys));
  room =
      (let e : length (kept a (xs ++ ys)) ≡ length (kept a xs) + length (kept a ys) = ap (λ (x : List Receipt). length x) (kept-append a xs ys) ∙ length-append (kept a xs) (kept a ys) in
      let x = h.room in
      let y = k.room in
      omega arith);
}
