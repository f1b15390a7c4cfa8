use Rattle.std.proofs.lemmas.Result.{err_from_is_err_and}
use Rattle.bh_columns.proofs.Taking.{stopped_then, taken_none, taken_then}
use Rattle.bh_columns.proofs.record.Recording.take_lines.Goals as goal

pub loop-init : goal.loop-init
loop-init c = λ sel run recorded. taken_none _ sel _ _ run _ recorded

pub returns-in_err-take_next-clause-stopped : goal.returns-in_err-take_next-clause-stopped
returns-in_err-take_next-clause-stopped c =
    let p = err_from_is_err_and c.from_residual.result c.from_residual.ensures.1 in
    rw (p.1, p.2) (λ sel run more recorded. stopped_then _ sel _ _ _ _ run _ _ more _ (c.loop.invariant sel run recorded) (λ later ys was. c.in_err-take_next.ensures.stopped sel later ys was))

pub loop-preserved : goal.loop-preserved
loop-preserved c = λ sel run recorded. taken_then _ sel _ _ _ _ run _ _ _ (c.loop.invariant sel run recorded) (λ later was. c.in_ok-take_next.ensures.taken sel later was)

pub returns-clause-taken : goal.returns-clause-taken
returns-clause-taken c = λ sel run recorded. taken_then _ sel _ _ _ _ run _ _ _ (c.loop.invariant sel run recorded) (λ later was. c.in_ok-take_next.ensures.taken sel later was)
