use Rattle.std.proofs.Common.{length, ap, arith, length-drop}
use Rattle.std.proofs.lemmas.Result.{err_from_is_err_and}
use Rattle.bh_port.proofs.Answering.{front-within}
use Rattle.bh_columns.proofs.Taking.{front_taken}
use Rattle.bh_columns.proofs.record.Recording.take_next.Goals as goal

pub returns-clause-taken : goal.returns-clause-taken
returns-clause-taken c = λ sel run recorded.
    front_taken _ sel _ _ _ _ c.as_slice.result.now c.args.buffer.now.items c.advance.new.self.items c.in-Some.line c.as_slice.ensures c.in-Some.ensures (λ later was. c.in_ok-take_line.ensures sel later was) c.advance.ensures.items run recorded

pub returns-clause-shorter : goal.returns-clause-shorter
returns-clause-shorter c = λ _.
    let f = front-within c.as_slice.result.now c.args.buffer.now.items c.in-Some.line c.as_slice.ensures c.in-Some.ensures in
    omega (arith, f.0, f.1, ap length c.advance.ensures.items, length-drop c.in-Some.line.taken c.args.buffer.now.items)

pub returns-in_err-take_line-clause-stopped : goal.returns-in_err-take_line-clause-stopped
returns-in_err-take_line-clause-stopped c =
    let p = err_from_is_err_and c.from_residual.result c.from_residual.ensures.1 in
    rw (p.1, p.2) (λ sel run more recorded. tt)
