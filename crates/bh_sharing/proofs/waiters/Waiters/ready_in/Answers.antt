use Rattle.std.proofs.Common.{◌≡◌, ◌≤◌, ◌<◌, ◌+◌, ◌∙◌, ℕ, length, sym, subst, arith}
use Rattle.bh_sharing.specs.Waiters.{has_number, is_told}
use Rattle.bh_sharing.proofs.Waking.{AreFirst, first-all, first-more, first-same, run-more, told-at, told-beyond}
use Rattle.bh_sharing.proofs.waiters.Waiters.ready_in.Goals as goal
use Rattle.bh_sharing.proofs.waiters.Waiters.ready_in.Goals.{then-is_told, else-is_told}

pub loop-number-preserved : goal.loop-number-preserved
loop-number-preserved c =
    let P : ℕ → Type 0 = λ n. AreFirst (is_told c.args.core.now c.args.group c.args.self.now) (c.loop-number.number + 1) (has_number n) in
    let same : c.deref-place-items.result.now ≡ c.args.self.now = c.deref-place-items.ensures.value ∙ c.self.view_is in
    let within : c.loop-number.number < length c.args.self.now = rw same at c.loop-number-test.true in
    let ready = rw same at c.is_ready_in-is_ready.ensures in
    let wants = rw same at c.wants_run-wants_run.ensures in
    let at = told-at c.args.core.now c.args.group c.args.self.now c.loop-number.number _ c.loop-number.has_run c.is_ready_in-is_ready.result c.wants_run-wants_run.result c.is_told_behind-is_told.result
    within c.loop-number.invariant.run ready wants c.is_told_behind-is_told.ensures in
    record {
      told = elim c.if-is_told.branch [
        | then-is_told w ↦ (subst P (sym w.ready-is) (first-more _ (has_number c.loop-number.ready) (has_number w.with-ready.result) c.loop-number.number (at ∙ w.if-is_told.true) c.loop-number.invariant.told w.with-ready.ensures))
        | else-is_told w ↦ (subst P (sym w.ready-is) (first-same _ (has_number c.loop-number.ready) c.loop-number.number (at ∙ w.if-is_told.false) c.loop-number.invariant.told))
      ];
      run = run-more c.args.core.now c.args.group c.args.self.now c.loop-number.number _ c.loop-number.has_run c.is_ready_in-is_ready.result c.wants_run-wants_run.result c.has_run_then-has_run.result
          within c.loop-number.invariant.run ready wants c.has_run_then-has_run.ensures;
    }

pub returns : goal.returns
returns c =
    let same : c.deref-place-items.result.now ≡ c.args.self.now = c.deref-place-items.ensures.value ∙ c.self.view_is in
    let past : length c.args.self.now ≤ c.loop-number.number = rw same at c.loop-number-test.false in
    first-all (is_told c.args.core.now c.args.group c.args.self.now) (has_number c.loop-number.ready) c.loop-number.number
    (λ k h. told-beyond c.args.core.now c.args.group c.args.self.now k (omega (arith, past, h))) c.loop-number.invariant.told
