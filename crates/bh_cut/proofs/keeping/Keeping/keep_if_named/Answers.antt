use Rattle.std.proofs.Common.{◌≡◌, ◌∙◌, [], ◌++◌, true, false, ap, sym, append-nil, cond}
use Rattle.bh_cut.specs.Named.{names_one, texts}
use Rattle.bh_cut.proofs.keeping.Keeping.keep_if_named.Goals as goal

pub returns-in_ok-extend_from_slice-clause-keeps : goal.returns-in_ok-extend_from_slice-clause-keeps
returns-in_ok-extend_from_slice-clause-keeps c =
    let named : names_one (texts c.args.names.now) c.args.line.now ≡ true = sym c.in_ok-names_one.ensures ∙ c.if-branch.true in
    c.in_ok-extend_from_slice.ensures.items ∙ ap (λ v. c.args.self.now.out.items ++ cond v c.args.piece.now []) (sym named)

pub returns-else-branch-clause-keeps : goal.returns-else-branch-clause-keeps
returns-else-branch-clause-keeps c =
    let named : names_one (texts c.args.names.now) c.args.line.now ≡ false = sym c.in_ok-names_one.ensures ∙ c.if-branch.false in
    sym (append-nil c.args.self.now.out.items) ∙ ap (λ v. c.args.self.now.out.items ++ cond v c.args.piece.now []) (sym named)
