use Rattle.std.proofs.Common.{◌≡◌, ◌≤◌, ◌+◌, ◌∙◌, ℕ, length, sym, subst, arith}
use Rattle.bh_sharing.specs.Waiters.{has_number, is_told_anyhow}
use Rattle.bh_sharing.proofs.Waking.{AreFirst, anyhow-at, anyhow-beyond, first-all, first-more, first-same}
use Rattle.bh_sharing.proofs.waiters.Waiters.ready.Goals as goal
use Rattle.bh_sharing.proofs.waiters.Waiters.ready.Goals.{then-is_ready, else-is_ready}

pub loop-number-preserved : goal.loop-number-preserved
loop-number-preserved c =
    let P : ℕ → Type 0 = λ n. AreFirst (is_told_anyhow c.args.core.now c.args.self.now) (c.loop-number.number + 1) (has_number n) in
    let same : c.deref-place-items.result.now ≡ c.args.self.now = c.deref-place-items.ensures.value ∙ c.self.view_is in
    let at = anyhow-at c.args.core.now c.args.self.now c.loop-number.number _ c.is_ready.result (rw same at c.loop-number-test.true) (rw same at c.is_ready.ensures) in
    elim c.if-is_ready.branch [
      | then-is_ready w ↦ (subst P (sym w.ready-is) (first-more _ (has_number c.loop-number.ready) (has_number w.with-ready.result) c.loop-number.number (at ∙ w.if-is_ready.true) c.loop-number.invariant w.with-ready.ensures))
      | else-is_ready w ↦ (subst P (sym w.ready-is) (first-same _ (has_number c.loop-number.ready) c.loop-number.number (at ∙ w.if-is_ready.false) c.loop-number.invariant))
    ]

pub returns : goal.returns
returns c =
    let same : c.deref-place-items.result.now ≡ c.args.self.now = c.deref-place-items.ensures.value ∙ c.self.view_is in
    let past : length c.args.self.now ≤ c.loop-number.number = rw same at c.loop-number-test.false in
    first-all (is_told_anyhow c.args.core.now c.args.self.now) (has_number c.loop-number.ready) c.loop-number.number
    (λ k h. anyhow-beyond c.args.core.now c.args.self.now k (omega (arith, past, h))) c.loop-number.invariant
