use Rattle.std.proofs.Common.{◌≡◌, IfOk, sym, subst}
use Rattle.toml.specs.View.{view}
use Rattle.bh_lint.specs.Findings.{errors_of_named, warnings_of_named}
use Rattle.bh_lint.proofs.linting.lint_tree.Goals as goal

pub returns-in-Ok-clause-errors : goal.returns-in-Ok-clause-errors
returns-in-Ok-clause-errors c =
    subst (λ named. IfOk c.lint_named.result (λ found. found.errors.items ≡ errors_of_named (view c.args.root.now) named)) (sym c.in-Ok.ensures.ok) c.lint_named.ensures.errors

pub returns-in-Ok-clause-warnings : goal.returns-in-Ok-clause-warnings
returns-in-Ok-clause-warnings c =
    subst (λ named. IfOk c.lint_named.result (λ found. found.warnings.items ≡ warnings_of_named (view c.args.root.now) named)) (sym c.in-Ok.ensures.ok) c.lint_named.ensures.warnings
