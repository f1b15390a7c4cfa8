-- Turns of a worker, one after another.
use Rattle.std.proofs.Common.{◌≡◌, ℕ, Bool, true, false, not, List, [], ◌∷◌, ◌++◌, ◌⊎◌, inl, inr, refl, subst}
use Rattle.bh_base.specs.declared.step.GroupId.{GroupId}
use Rattle.bh_base.specs.declared.step.RunEnd.{RunEnd}
use Rattle.bh_base.specs.declared.step.Op.TheVariants as op
use Rattle.bh_base.specs.declared.reply.Reply.{Reply}
use Rattle.bh_base.specs.declared.reply.Reply.TheVariants as reply
use Rattle.bh_base.specs.Replies.{is_refusal}
use Rattle.bh_journal.specs.declared.pass.Receipt.{Receipt}
use Rattle.bh_journal.specs.Passes.{PassView, AddsReceipt}
use Rattle.bh_audit.specs.Calls.{CanBeMissing, step_at}
use Rattle.bh_workers.specs.Receipts.{IsReceiptOf, IsRunEnd, Gains, StepAdds, end_op}
use Rattle.bh_workers.specs.Work.{IsRunWithEnd, IsWork, IsTurn, IsEnding}
use Rattle.bh_workers.proofs.Adding.{taken, added_receipt, none_by_worn, none_by_no_group, none_by_same, Gains-append}
use Rattle.bh_workers.proofs.Calling.{end_known}

-- a reply that is no refusal
accepted_as : (r : Reply) → true ≡ not (is_refusal r) → is_refusal r ≡ false
accepted_as r is = at (is_refusal r) is
  where
    at : (refused : Bool) → true ≡ not refused → refused ≡ false
    at true is = cc
    at false is = refl

-- a reply that is one, and is not that for a missing command
pub refused_as : (r : Reply) → false ≡ not (is_refusal r) → (r ≡ reply.NoCommand → ⊥) → (r ≡ reply.Worn) ⊎ (r ≡ reply.NoGroup)
refused_as reply.Worn is known = inl refl
refused_as reply.NoGroup is known = inr refl
refused_as reply.NoCommand is known = absurd (known refl)
refused_as _ is known = absurd cc

module _ (ends : GroupId → ℕ → List ℕ → RunEnd → Type 0) (moments : ℕ → Type 0) where
  -- what is added so, with what it is
  abbrev pub AddsSo : Bool → PassView → PassView → (List Receipt → Type 0) → Type 0
  AddsSo a p q P = (made : List Receipt) × Gains a p q made × P made

  -- the end of a run was told, or refused
  pub ending_told : (a b : Bool) (p q : PassView) (g : GroupId) (serial command : ℕ) (arg : List ℕ) (end : RunEnd) (r : Reply)
      → g ≡ p.group → ends g command arg end → StepAdds moments a p (end_op serial end) r q
      → b ≡ not (is_refusal r) → (r ≡ reply.NoCommand → CanBeMissing (end_op serial end))
      → AddsSo a p q (λ made. IsEnding ends moments p.group serial command arg b made)
  ending_told a true p q g serial command arg end r same possible h is missing =
      let t = taken moments a p q (end_op serial end) r (accepted_as r is) h in (
        t.receipt ∷ [],
        t.gains,
        record { end = end; answered = r; possible = (let P : GroupId → Type 0 = λ x. ends x command arg end in subst P same possible); told = t.is },
      )
  ending_told a false p q g serial command arg end r same possible h is missing =
      let P : Reply → Type 0 = λ x. StepAdds moments a p (end_op serial end) x q in
      elim (refused_as r is (λ e. end_known serial end (missing e))) [
        | inl e ↦ ([], none_by_worn a p q (subst P e h).2, refl)
        | inr e ↦ ([], none_by_no_group a p q (subst P e h).2, refl)
      ]

  -- a Start, and what became of its run
  pub turn_made : (a b : Bool) (p mid q : PassView) (serial command : ℕ) (arg : List ℕ) (m : ℕ) → moments m
      → AddsReceipt a p (step_at p.group m op.Start) (reply.Assigned serial command arg) mid
      → AddsSo a mid q (λ made. IsEnding ends moments mid.group serial command arg b made)
      → AddsSo a p q (λ made. IsTurn ends moments p.group b made)
  turn_made a b p mid q serial command arg m named h w =
      let t = added_receipt moments a p mid op.Start m (reply.Assigned serial command arg) named h in
      (t.receipt ∷ w.0, Gains-append a p mid q (t.receipt ∷ []) w.0 t.gains w.1, turn_is b p.group mid.group serial command arg t.receipt w.0 t.gains.group t.is w.2)
    where
      turn_is : (b : Bool) (g g' : GroupId) (serial command : ℕ) (arg : List ℕ) (r : Receipt) (rs : List Receipt) → g' ≡ g
          → IsReceiptOf moments g op.Start (reply.Assigned serial command arg) r → IsEnding ends moments g' serial command arg b rs → IsTurn ends moments g b (r ∷ rs)
      turn_is true g g' serial command arg r [] same s e = absurd e
      turn_is true g g' serial command arg r (x ∷ []) same s e = record {
        assigned = record { serial = serial; command = command; arg = arg; start = s };
        end = (let P : GroupId → Type 0 = λ y. IsRunEnd ends moments y serial command arg x in subst P same e);
      }
      turn_is true g g' serial command arg r (x ∷ y ∷ rs) same s e = absurd e
      turn_is false g g' serial command arg r [] same s e = record { serial = serial; command = command; arg = arg; start = s }
      turn_is false g g' serial command arg r (x ∷ rs) same s e = absurd (let n : x ∷ rs ≡ [] = e in cc)

  -- whole runs, none without its end
  abbrev pub AreRuns : GroupId → List Receipt → Type 0
  AreRuns g [] = Unit {0}
  AreRuns g (r ∷ []) = ⊥
  AreRuns g (r ∷ e ∷ rs) = IsRunWithEnd ends moments g r e × AreRuns g rs

  runs_then : (g : GroupId) (rs ys : List Receipt) → AreRuns g rs → IsTurn ends moments g true ys → AreRuns g (rs ++ ys)
  runs_then g [] [] h t = absurd t
  runs_then g [] (x ∷ []) h t = absurd t
  runs_then g [] (x ∷ y ∷ []) h t = (t, tt)
  runs_then g [] (x ∷ y ∷ z ∷ ys) h t = absurd t
  runs_then g (r ∷ []) ys h t = absurd h
  runs_then g (r ∷ e ∷ rs) ys h t = (h.0, runs_then g rs ys h.1 t)

  work_then : (g : GroupId) (rs ys : List Receipt) → AreRuns g rs → IsTurn ends moments g false ys → IsWork ends moments g (rs ++ ys)
  work_then g [] [] h t = tt
  work_then g [] (x ∷ []) h t = t
  work_then g [] (x ∷ y ∷ ys) h t = absurd t
  work_then g (r ∷ []) ys h t = absurd h
  work_then g (r ∷ e ∷ rs) ys h t = (h.0, work_then g rs ys h.1 t)

  -- a worker that has made no run
  pub work_begins : (a : Bool) (p : PassView) → AddsSo a p p (λ made. AreRuns p.group made)
  work_begins a p = ([], none_by_same a p p refl, tt)

  -- one run more
  pub work_goes_on : (a : Bool) (p m q : PassView) → AddsSo a p m (λ made. AreRuns p.group made) → AddsSo a m q (λ made. IsTurn ends moments m.group true made)
      → AddsSo a p q (λ made. AreRuns p.group made)
  work_goes_on a p m q h t =
      (h.0 ++ t.0, Gains-append a p m q h.0 t.0 h.1 t.1, runs_then p.group h.0 t.0 h.2 (let P : GroupId → Type 0 = λ x. IsTurn ends moments x true t.0 in subst P h.1.group t.2))

  -- and the last turn
  pub work_ends : (a : Bool) (p m q : PassView) → AddsSo a p m (λ made. AreRuns p.group made) → AddsSo a m q (λ made. IsTurn ends moments m.group false made)
      → AddsSo a p q (λ made. IsWork ends moments p.group made)
  work_ends a p m q h t =
      (h.0 ++ t.0, Gains-append a p m q h.0 t.0 h.1 t.1, work_then p.group h.0 t.0 h.2 (let P : GroupId → Type 0 = λ x. IsTurn ends moments x false t.0 in subst P h.1.group t.2))
