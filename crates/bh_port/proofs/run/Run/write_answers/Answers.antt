use Rattle.std.proofs.lemmas.Result.{err_from_is_err_and}
use Rattle.bh_port.proofs.AtOnce.{at_once-answered, at_once-outcome, at_once-unwritten}
use Rattle.bh_port.proofs.Outcomes.{on_ok}
use Rattle.bh_port.proofs.run.Run.write_answers.Goals as goal

pub returns-clause-answered : goal.returns-clause-answered
returns-clause-answered g c =
    on_ok c.answer_lines-answered.result c.answer_lines-answered.ensures.answered
    (λ answers. at_once-answered _ _ _ _ _ _ _ _ _ _ c.clear.ensures.items c.as_slice.ensures.value answers c.in_ok-write.ensures.ok)

pub returns-clause-stopped : goal.returns-clause-stopped
returns-clause-stopped g c =
    at_once-outcome c.answer_lines-answered.result _ _ _ _ _ _ _ _ c.clear.ensures.items c.as_slice.ensures.value c.answer_lines-answered.ensures.stopped c.answer_lines-answered.ensures.kinds c.in_ok-write.ensures.ok

pub returns-in_err-write-clause-stopped : goal.returns-in_err-write-clause-stopped
returns-in_err-write-clause-stopped g c =
    let p = err_from_is_err_and c.from_residual.result c.from_residual.ensures.1 in
    rw (p.1, p.2)
    (at_once-unwritten c.answer_lines-answered.result _ _ _ _ _ _ _ _ _ _ _ c.clear.ensures.items c.as_slice.ensures.value c.answer_lines-answered.ensures.answered c.answer_lines-answered.ensures.stopped c.answer_lines-answered.ensures.kinds
    c.in_err-write.ensures.err.0 c.in_err-write.ensures.front)
