use Rattle.std.proofs.Common.{rules}
use Rattle.std.proofs.lemmas.Result.{err_from_is_err_and}
use Rattle.bh_port.proofs.Answering.{last-kind}
use Rattle.bh_look.proofs.Taking.{last-found, last-none, last-refused, watched-last, watched-none}
use Rattle.bh_look.proofs.watch.Watch.take_last.Goals as goal

pub returns-in_default-clause-outcome : goal.returns-in_default-clause-outcome
returns-in_default-clause-outcome c = λ before watched. last-none _ before _ _ _ tt (search rules) c.in_ok-line.ensures

pub returns-in_default-clause-watched : goal.returns-in_default-clause-watched
returns-in_default-clause-watched c = watched-none _ _ _ _ _ (search rules) c.in_ok-line.ensures

pub returns-in_err-line-clause-outcome : goal.returns-in_err-line-clause-outcome
returns-in_err-line-clause-outcome c = λ before watched.
    let p = err_from_is_err_and c.from_residual.result c.from_residual.ensures.1 in
    rw (p.1, p.2) (last-refused _ before _ _ _ c.in_err-line.ensures)

pub returns-in_err-line-clause-kinds : goal.returns-in_err-line-clause-kinds
returns-in_err-line-clause-kinds c =
    let p = err_from_is_err_and c.from_residual.result c.from_residual.ensures.1 in
    rw (p.1, p.2) (last-kind _ _ c.in_err-line.ensures)

pub returns-in_err-take_line-clause-outcome : goal.returns-in_err-take_line-clause-outcome
returns-in_err-take_line-clause-outcome c = λ before watched.
    let p = err_from_is_err_and c.from_residual-in_err-take_line.result c.from_residual-in_err-take_line.ensures.1 in
    rw (p.1, p.2) tt

pub returns-clause-outcome : goal.returns-clause-outcome
returns-clause-outcome c = last-found _ _ _ _ _ _ _ _ _ tt c.in-Some.is c.in_ok-line.ensures c.as_str.ensures.value c.in_ok-take_line.ensures

pub returns-clause-watched : goal.returns-clause-watched
returns-clause-watched c = watched-last _ _ _ _ _ _ _ _ _ c.in-Some.is c.in_ok-line.ensures c.as_str.ensures.value c.in_ok-take_line.ensures
