use Rattle.std.proofs.Common.{Err, Some}
use Rattle.std.proofs.lemmas.Result.{err_from_is_err_and}
use Rattle.bh_cut.proofs.Looking.{stopped-then}
use Rattle.bh_cut.proofs.keeping.Keeping.keep_lines.Goals as goal

pub returns-in_err-keep_next-clause-stopped : goal.returns-in_err-keep_next-clause-stopped
returns-in_err-keep_next-clause-stopped c =
    let p = err_from_is_err_and c.from_residual.result c.from_residual.ensures.1 in
    rw (p.1, p.2) (λ more. stopped-then _ _ (Some c.keep_next.new.self.out.items) _ _ _ more (Err c.in_err-keep_next.field-0.0) c.loop.invariant (c.in_err-keep_next.ensures.stopped more))
