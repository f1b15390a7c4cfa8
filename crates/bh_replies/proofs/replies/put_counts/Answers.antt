use Rattle.std.proofs.Common.{rules, inl, inr, arith, refl}
use Rattle.std.specs.Iterator.Adapters.{zip_first, zip_second}
use Rattle.std.specs.Slice.Iter.{iter_rest}
use Rattle.bh_replies.proofs.Counting.{counts-left, most-left, no_counts-left}
use Rattle.bh_replies.proofs.Putting.{next-put, next-not_put, put-nothing, put-same}
use Rattle.bh_replies.proofs.replies.put_counts.Goals as goal

pub loop-front-init : goal.loop-front-init
loop-front-init c = λ r end put. search rules

pub loop-front-preserved : goal.loop-front-preserved
loop-front-preserved c =
    let steps = c.in-Some.ensures.steps in
    next-put _ _ _ _ _ _ _ _ _ _ _ _ c.loop-front.invariant (counts-left _ _ _ c.in-Some.front.now c.in-Some.count.now _ _ steps.0 steps.1) (most-left _ c.in-Some.front.now _ steps.0) c.in_ok-put_count.ensures

pub returns-in_err-put_count : goal.returns-in_err-put_count
returns-in_err-put_count c =
    let steps = c.in-Some.ensures.steps in
    next-not_put _ _ _ _ _ _ _ _ _ _ _ _ c.loop-front.invariant (most-left _ c.in-Some.front.now _ steps.0) c.in_err-put_count.ensures c.from_residual.ensures.0

pub returns : goal.returns
returns c =
    let l = c.loop-front in
    let none = no_counts-left l.later (iter_rest (zip_first l.front-iterator)) (iter_rest (zip_second l.front-iterator)) (elim c.in-None.ensures.steps [
      | inl fronts ↦ inl fronts.1.0
      | inr counts ↦ inr counts.1.0
    ]) in
    l.invariant _ _ (rw none (put-same _ _ _ _ _ _ _ (put-nothing tt l.bytes) refl (omega arith)))
