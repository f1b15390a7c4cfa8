use Rattle.std.proofs.Common.{◌≡◌, ℕ, false, List, ◌++◌, Err, ap, refl, subst}
use Rattle.std.proofs.lemmas.Result.{err_from_is_err_and}
use Rattle.bh_lines.specs.Lines.{cut, has_line, stopped}
use Rattle.bh_cut.proofs.Feeds.{has_line-none, long-stopped, none-found}
use Rattle.bh_cut.proofs.Looking.{next-kept, next-stopped, stopped-outcome}
use Rattle.bh_cut.proofs.keeping.Keeping.keep_next.Goals as goal

pub returns-then-bytes-gt-LINE_LIMIT-clause-stopped : goal.returns-then-bytes-gt-LINE_LIMIT-clause-stopped
returns-then-bytes-gt-LINE_LIMIT-clause-stopped c = λ more.
    stopped-outcome _ _ (c.args.buffer.now.items ++ more)
    (subst (λ (ys : List ℕ). cut (ys ++ more) ≡ stopped) c.as_slice-bytes.ensures (long-stopped c.as_slice-bytes.result.now c.in_default.ensures c.if-bytes-gt-LINE_LIMIT.true more))

pub returns-in_default-clause-none_left : goal.returns-in_default-clause-none_left
returns-in_default-clause-none_left c = λ _.
    subst (λ (ys : List ℕ). has_line ys ≡ false) c.as_slice-bytes.ensures
    (has_line-none c.as_slice-bytes.result.now (none-found c.as_slice-bytes.result.now c.in_default.ensures) c.if-bytes-gt-LINE_LIMIT.false)

pub returns-in_err-keep_piece-clause-stopped : goal.returns-in_err-keep_piece-clause-stopped
returns-in_err-keep_piece-clause-stopped c =
    let p = err_from_is_err_and c.from_residual.result c.from_residual.ensures.1 in
    rw (p.1, p.2)
    (next-stopped c.in_err-keep_piece.field-0.0 _ _ _ c.as_slice-bytes.result.now c.args.buffer.now.items _ c.in-Some.feed c.as_slice-bytes.ensures c.in-Some.ensures refl
    c.in_err-keep_piece.ensures.kinds (λ line. c.in_err-keep_piece.ensures.refused (ap Err line)) c.in_err-keep_piece.ensures.err)

pub returns-clause-cut_up : goal.returns-clause-cut_up
returns-clause-cut_up c =
    next-kept _ _ _ c.as_slice-bytes.result.now c.args.buffer.now.items _ c.advance.new.self.items c.in-Some.feed c.as_slice-bytes.ensures c.in-Some.ensures refl
    c.in_ok-keep_piece.ensures.keeps c.advance.ensures.items
