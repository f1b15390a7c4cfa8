use Rattle.std.proofs.Common.{rules, ◌≡◌, ap, ◌∙◌, ◌++◌}
use Rattle.std.proofs.lemmas.Result.{err_from_is_err_and}
use Rattle.bh_cut.specs.Kept.{own_piece}
use Rattle.bh_cut.specs.Named.{texts}
use Rattle.bh_cut.proofs.Looking.{last-kept, last-none, last-refused, last-kind}
use Rattle.bh_cut.proofs.keeping.Keeping.keep_last.Goals as goal

pub returns-in_err-line-clause-outcome : goal.returns-in_err-line-clause-outcome
returns-in_err-line-clause-outcome c =
    let p = err_from_is_err_and c.from_residual-in_err-line.result c.from_residual-in_err-line.ensures.1 in
    rw (p.1, p.2) (last-refused _ _ _ _ c.in_err-line.ensures)

pub returns-in_err-line-clause-kinds : goal.returns-in_err-line-clause-kinds
returns-in_err-line-clause-kinds c =
    let p = err_from_is_err_and c.from_residual-in_err-line.result c.from_residual-in_err-line.ensures.1 in
    rw (p.1, p.2) (last-kind _ _ c.in_err-line.ensures)

pub returns-in_default-clause-outcome : goal.returns-in_default-clause-outcome
returns-in_default-clause-outcome c = last-none _ _ _ _ tt c.requires (search rules) c.in_ok-line.ensures

pub returns-clause-outcome : goal.returns-clause-outcome
returns-clause-outcome c =
    let same : c.as_slice-2.result.now ≡ c.args.rest.now.items = cc (c.as_slice-2.ensures.value, c.in_ok-extend_from_slice.ensures.items, c.new-piece.ensures.items, c.as_slice.ensures) in
    last-kept _ _ _ c.args.rest.now.items c.as_str.result.now _ _ tt c.requires c.in-Some.is c.in_ok-line.ensures c.as_str.ensures.value
    (c.in_ok-keep_if_named.ensures.keeps ∙ ap (λ p. c.args.self.now.out.items ++ own_piece (texts c.args.names.now) c.as_str.result.now p) same)
