use Rattle.std.proofs.Common.{◌≡◌, ◌∙◌, ◌++◌, ap, sym, subst}
use Rattle.toml.specs.View.{view}
use Rattle.bh_props.specs.ByGroup.{AreByGroup}
use Rattle.bh_props.specs.Subjects.{subjects}
use Rattle.bh_lint.specs.Table.{knows_in}
use Rattle.bh_lint.specs.Findings.{service_errors, subject_errors, unknown_names, doubts_in}
use Rattle.bh_lint.proofs.linting.lint_with.Goals as goal

pub returns-clause-errors : goal.returns-clause-errors
returns-clause-errors c =
    let keys = c.args.names.now.texts.keys in
    let commands = c.args.commands.now.entries in
    let by_groups = subst (AreByGroup commands) (sym c.deref.ensures.value) c.in_ok-further.ensures.further in
    let made : c.in_ok-subjects.subjects.items ≡ subjects keys commands =
    c.in_ok-subjects.ensures commands by_groups ∙ ap (λ names. subjects names commands) c.as_slice.ensures.keys in
    let some = c.deref-2.ensures.value ∙ made in
    c.in_ok-errors.ensures
    ∙ (λ i. service_errors keys (view (c.of-sections.ensures.root i)) ++ (c.args.refused.now ++ subject_errors (view (c.of-sections.ensures.root i)) (some i)))

pub returns-clause-warnings : goal.returns-clause-warnings
returns-clause-warnings c =
    let keys = c.args.names.now.texts.keys in
    let commands = c.args.commands.now.entries in
    let by_groups = subst (AreByGroup commands) (sym c.deref.ensures.value) c.in_ok-further.ensures.further in
    let made : c.in_ok-subjects.subjects.items ≡ subjects keys commands =
    c.in_ok-subjects.ensures commands by_groups ∙ ap (λ names. subjects names commands) c.as_slice.ensures.keys in
    let some = c.deref-3.ensures.value ∙ made in
    c.in_ok-warnings.ensures
    ∙ (λ i. unknown_names (knows_in keys commands) (view (c.of-sections.ensures.root i)) (some i) ++ doubts_in (view (c.of-sections.ensures.root i)) (some i))
