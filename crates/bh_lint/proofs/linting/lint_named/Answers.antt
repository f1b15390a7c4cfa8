use Rattle.std.proofs.Common.{◌≡◌, ◌++◌, List, IfOk, sym, subst}
use Rattle.toml.specs.View.{view}
use Rattle.bh_props.specs.Subjects.{subjects}
use Rattle.bh_lint.specs.declared.finding.Finding.{Finding}
use Rattle.bh_lint.specs.Findings.{warnings_with, commands_or_none, doubts_in}
use Rattle.bh_lint.proofs.Agree.{tables-agree}
use Rattle.bh_lint.proofs.Listed.{all-listed}
use Rattle.bh_lint.proofs.linting.lint_named.Goals as goal

pub returns-in-Ok-clause-warnings : goal.returns-in-Ok-clause-warnings
returns-in-Ok-clause-warnings c =
    let keys = c.args.names.now.texts.keys in
    let root = view c.args.root.now in
    let commands = c.in-Ok.commands.entries in
    subst (λ further. IfOk c.lint_with.result (λ found. found.warnings.items ≡ warnings_with keys (commands_or_none further) root)) (sym c.in-Ok.ensures.ok)
    (subst (λ (names : List Finding). IfOk c.lint_with.result (λ found. found.warnings.items ≡ names ++ doubts_in root (subjects keys commands)))
    (tables-agree keys commands root (all-listed root keys commands c.requires.listed c.in-Ok.ensures.ok)) c.lint_with.ensures.warnings)
