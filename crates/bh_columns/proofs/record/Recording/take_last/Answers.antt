use Rattle.std.proofs.Common.{rules}
use Rattle.std.proofs.lemmas.Result.{err_from_is_err_and}
use Rattle.bh_port.proofs.Answering.{last-kind}
use Rattle.bh_columns.proofs.Taking.{last_found, last_none, last_refused}
use Rattle.bh_columns.proofs.record.Recording.take_last.Goals as goal

pub returns-in_default-clause-outcome : goal.returns-in_default-clause-outcome
returns-in_default-clause-outcome c = λ sel run recorded. last_none _ sel _ _ run _ _ tt (search rules) c.in_ok-line.ensures recorded

pub returns-in_err-line-clause-outcome : goal.returns-in_err-line-clause-outcome
returns-in_err-line-clause-outcome c = λ sel run recorded.
    let p = err_from_is_err_and c.from_residual.result c.from_residual.ensures.1 in
    rw (p.1, p.2) (last_refused _ sel _ _ run _ _ c.in_err-line.ensures recorded)

pub returns-in_err-line-clause-kinds : goal.returns-in_err-line-clause-kinds
returns-in_err-line-clause-kinds c =
    let p = err_from_is_err_and c.from_residual.result c.from_residual.ensures.1 in
    rw (p.1, p.2) (last-kind _ _ c.in_err-line.ensures)

pub returns-in_err-take_line-clause-outcome : goal.returns-in_err-take_line-clause-outcome
returns-in_err-take_line-clause-outcome c = λ sel run recorded.
    let p = err_from_is_err_and c.from_residual-in_err-take_line.result c.from_residual-in_err-take_line.ensures.1 in
    rw (p.1, p.2) tt

pub returns-clause-outcome : goal.returns-clause-outcome
returns-clause-outcome c = λ sel run recorded. last_found _ sel _ _ _ _ _ _ _ _ tt c.in-Some.is c.in_ok-line.ensures c.as_str.ensures.value (λ later was. c.in_ok-take_line.ensures sel later was) run recorded
