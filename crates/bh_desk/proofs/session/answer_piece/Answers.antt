use Rattle.std.proofs.Common.{rules}
use Rattle.std.proofs.lemmas.Result.{err_from_is_err_and}
use Rattle.bh_desk.proofs.Holding.{piece-ends, piece-written, piece-broken}
use Rattle.bh_desk.proofs.session.answer_piece.Goals as goal

pub returns-in-Ok-clause-outcome : goal.returns-in-Ok-clause-outcome
returns-in-Ok-clause-outcome g c =
    piece-ends _ _ _ _ _ _ _ _ _ c.answer_lines.new.answers.items c.write_held.result c.in-Ok.ensures.outcome c.write_held.ensures.ok c.write_held.ensures.err c.write_held.ensures.front

pub returns-in_ok-write_held-in-Err-clause-outcome : goal.returns-in_ok-write_held-in-Err-clause-outcome
returns-in_ok-write_held-in-Err-clause-outcome g c =
    piece-written _ _ _ _ _ _ _ _ c.answer_lines.new.answers.items _ c.in-Err.ensures.outcome (search rules) c.in_ok-write_held-in-Err.ensures.ok

pub returns-in_err-write_held-in-Err-clause-outcome : goal.returns-in_err-write_held-in-Err-clause-outcome
returns-in_err-write_held-in-Err-clause-outcome g c =
    let p = err_from_is_err_and c.from_residual.result c.from_residual.ensures.1 in
    let e = c.in_err-write_held-in-Err.ensures in
    rw (p.1, p.2) (piece-broken _ _ _ _ _ _ _ _ c.answer_lines.new.answers.items _ _ c.in-Err.ensures.outcome (search rules) e.front e.err.0)
