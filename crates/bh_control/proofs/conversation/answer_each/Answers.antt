use Rattle.std.proofs.Common.{List, ℕ, ◌++◌, Ok, Err, ◌∙◌, subst, ap}
use Rattle.std.proofs.lemmas.Result.{err_from_is_err_and}
use Rattle.bh_lines.specs.Names.{Names}
use Rattle.bh_control.specs.AnswerLine.{responder, IsAnswer, IsPut}
use Rattle.bh_control.specs.Taken.{TakesAsked}
use Rattle.bh_control.proofs.Pieces.{so_far-put, so_far-refused}
use Rattle.bh_control.proofs.conversation.answer_each.Goals as goal

pub returns-in_err-asked-clause-each : goal.returns-in_err-asked-clause-each
returns-in_err-asked-clause-each g c =
    let inv = c.loop-answer.invariant in
    let p = err_from_is_err_and c.from_residual.result c.from_residual.ensures.1 in
    let taken = subst (λ (names : Names). TakesAsked names c.loop-answer.received (Err c.in_err-asked.field-0.0) c.next.new.self) inv.0 c.in_err-asked.ensures.taken in
    rw (p.1, p.2) (so_far-refused _ _ _ _ _ _ _ inv.1 taken)

pub loop-answer-preserved : goal.loop-answer-preserved
loop-answer-preserved g c =
    let inv = c.loop-answer.invariant in
    let who = λ (names : Names). responder names g.C.Control.may_show g.C.Control.may_answer g.C.Control.may_close g.C.Control.may_total g.C.Control.may_tune g.C.Control.may_force in
    let taken = subst (λ (names : Names). TakesAsked names c.loop-answer.received (Ok c.in_ok-asked.field-0) c.next.new.self) inv.0 c.in_ok-asked.ensures.taken in
    let put = subst (λ (names : Names). IsPut (IsAnswer (who names) c.in-Some.asked) c.clear.new.self.items c.put_answer.new.out.items) inv.0 c.in_ok-put_answer.ensures.answer in (
      c.in_ok-put_answer.ensures.groups ∙ inv.0,
      so_far-put _ _ _ _ _ _ _ c.clear.new.self.items c.put_answer.new.out.items _ _ inv.1 c.in-Some.is taken c.clear.ensures.items put
          (c.in_ok-extend_from_slice.ensures.items ∙ ap (λ (ys : List ℕ). c.loop-answer.out.items ++ ys) c.as_slice.ensures.value),
    )
