use Rattle.std.proofs.Common.{◌≡◌, ◌++◌, List, [], ◌∷◌, IfOk, subst}
use Rattle.toml.specs.View.{view}
use Rattle.bh_props.specs.Subjects.{subjects}
use Rattle.bh_lint.specs.declared.finding.Finding.{Finding}
use Rattle.bh_lint.specs.Table.{knows_in}
use Rattle.bh_lint.specs.Findings.{service_errors, subject_errors, unknown_names, doubts_in}
use Rattle.bh_lint.proofs.Agree.{tables-agree}
use Rattle.bh_lint.proofs.Listed.{none-listed}
use Rattle.bh_lint.proofs.linting.lint_refused.Goals as goal

pub returns-clause-errors : goal.returns-clause-errors
returns-clause-errors c =
    subst (λ f. IfOk c.lint_with.result (λ found. found.errors.items ≡ service_errors c.args.names.now.texts.keys (view c.args.root.now)
    ++ (f ∷ [] ++ subject_errors (view c.args.root.now) (subjects c.args.names.now.texts.keys [])))) c.of_refusal-refused.ensures
    (subst (λ commands. IfOk c.lint_with.result (λ found. found.errors.items ≡ service_errors c.args.names.now.texts.keys (view c.args.root.now)
    ++ (c.of_refusal-refused.result ∷ [] ++ subject_errors (view c.args.root.now) (subjects c.args.names.now.texts.keys commands)))) c.new-none.ensures.empty
    c.lint_with.ensures.errors)

pub returns-clause-warnings : goal.returns-clause-warnings
returns-clause-warnings c =
    let keys = c.args.names.now.texts.keys in
    let root = view c.args.root.now in
    subst (λ (names : List Finding). IfOk c.lint_with.result (λ found. found.warnings.items ≡ names ++ doubts_in root (subjects keys [])))
    (tables-agree keys [] root (none-listed root keys c.requires.listed))
    (subst (λ commands. IfOk c.lint_with.result (λ found. found.warnings.items ≡ unknown_names (knows_in keys commands) root (subjects keys commands) ++ doubts_in root (subjects keys commands)))
    c.new-none.ensures.empty c.lint_with.ensures.warnings)
