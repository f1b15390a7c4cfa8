use Rattle.std.proofs.Common.{arith}
use Rattle.std.proofs.lemmas.Result.{err_from_is_err_and}
use Rattle.bh_port.proofs.Answering.{answered-then, stopped-then}
use Rattle.bh_port.proofs.Outcomes.{if_err, if_ok, on_ok}
use Rattle.bh_port.proofs.run.Run.answer_next.Goals as goal

pub returns-clause-answered : goal.returns-clause-answered
returns-clause-answered c = on_ok c.answer_cut.result c.answer_cut.ensures.answered
    (λ next before agrees. answered-then _ _ _ _ before _ _ _ _ _ (c.in_ok-answer_front.ensures.answered before agrees) next)

pub returns-clause-shorter : goal.returns-clause-shorter
returns-clause-shorter c = if_ok c.answer_cut.result c.answer_cut.ensures.shorter
    (λ ended shorter is. omega (arith, shorter is, c.in_ok-answer_front.ensures.no_longer))

pub returns-clause-stopped : goal.returns-clause-stopped
returns-clause-stopped c = if_err c.answer_cut.result c.answer_cut.ensures.stopped
    (λ e stopped before more agrees. stopped-then _ _ _ _ before _ _ _ more e (c.in_ok-answer_front.ensures.answered before agrees) stopped)

pub returns-in_err-answer_front-clause-stopped : goal.returns-in_err-answer_front-clause-stopped
returns-in_err-answer_front-clause-stopped c =
    let p = err_from_is_err_and c.from_residual.result c.from_residual.ensures.1 in
    rw (p.1, p.2) (λ before more agrees. c.in_err-answer_front.ensures.stopped before more agrees)
