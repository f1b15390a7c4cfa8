use Rattle.std.proofs.lemmas.Result.{err_from_is_err_and}
use Rattle.bh_port.proofs.Answering.{answered-none, answered-then, stopped-then}
use Rattle.bh_port.proofs.run.Run.answer_lines.Goals as goal

pub loop-init : goal.loop-init
loop-init c = λ before agrees. answered-none _ _ before _ _ agrees

pub returns-in_err-answer_next-clause-stopped : goal.returns-in_err-answer_next-clause-stopped
returns-in_err-answer_next-clause-stopped c =
    let p = err_from_is_err_and c.from_residual.result c.from_residual.ensures.1 in
    rw (p.1, p.2) (λ before more agrees. stopped-then _ _ _ _ before _ _ _ more _ (c.loop.invariant before agrees) c.in_err-answer_next.ensures.stopped)

pub loop-preserved : goal.loop-preserved
loop-preserved c = λ before agrees. answered-then _ _ _ _ before _ _ _ _ _ (c.loop.invariant before agrees) c.in_ok-answer_next.ensures.answered
