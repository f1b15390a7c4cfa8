use Rattle.std.proofs.lemmas.Result.{err_from_is_err_and}
use Rattle.bh_cut.proofs.AtOnce.{at_once-outcome, at_once-unwritten}
use Rattle.bh_cut.proofs.keeping.Keeping.write_kept.Goals as goal

pub returns-clause-stopped : goal.returns-clause-stopped
returns-clause-stopped g c =
    at_once-outcome c.keep_lines-kept.result _ _ _ _ _ _ _ c.clear.ensures.items c.as_slice.ensures.value c.keep_lines-kept.ensures.stopped c.keep_lines-kept.ensures.kinds c.in_ok-write.ensures.ok

pub returns-in_err-write-clause-stopped : goal.returns-in_err-write-clause-stopped
returns-in_err-write-clause-stopped g c =
    let p = err_from_is_err_and c.from_residual.result c.from_residual.ensures.1 in
    rw (p.1, p.2)
    (at_once-unwritten c.keep_lines-kept.result _ _ _ _ _ _ _ _ _ c.clear.ensures.items c.as_slice.ensures.value c.keep_lines-kept.ensures.cut_up c.keep_lines-kept.ensures.stopped c.keep_lines-kept.ensures.kinds
    c.in_err-write.ensures.err.0 c.in_err-write.ensures.front)
