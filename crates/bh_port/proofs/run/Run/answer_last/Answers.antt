use Rattle.std.proofs.Common.{rules}
use Rattle.std.proofs.lemmas.Result.{err_from_is_err_and}
use Rattle.bh_port.proofs.Answering.{last-found, last-none, last-refused, last-kind}
use Rattle.bh_port.proofs.run.Run.answer_last.Goals as goal

pub returns-in_default-clause-outcome : goal.returns-in_default-clause-outcome
returns-in_default-clause-outcome c = λ before agrees. last-none _ _ before _ _ tt (search rules) c.in_ok-line.ensures

pub returns-in_err-line-clause-outcome : goal.returns-in_err-line-clause-outcome
returns-in_err-line-clause-outcome c = λ before agrees.
    let p = err_from_is_err_and c.from_residual.result c.from_residual.ensures.1 in
    rw (p.1, p.2) (last-refused _ _ before _ _ c.in_err-line.ensures)

pub returns-in_err-line-clause-kinds : goal.returns-in_err-line-clause-kinds
returns-in_err-line-clause-kinds c =
    let p = err_from_is_err_and c.from_residual.result c.from_residual.ensures.1 in
    rw (p.1, p.2) (last-kind _ _ c.in_err-line.ensures)

pub returns-clause-outcome : goal.returns-clause-outcome
returns-clause-outcome c = last-found _ _ _ _ _ _ _ _ _ tt c.in-Some.is c.in_ok-line.ensures c.as_str.ensures.value c.in_ok-answer_line.ensures.answers
