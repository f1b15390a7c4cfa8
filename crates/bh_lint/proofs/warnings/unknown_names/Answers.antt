use Rattle.std.proofs.Common.{◌∙◌, ◌++◌, ap}
use Rattle.toml.specs.View.{view}
use Rattle.bh_lint.specs.Table.{knows_in}
use Rattle.bh_lint.specs.Findings.{unknown_names, unknown_of}
use Rattle.bh_lint.proofs.Grown.{three-rows}
use Rattle.bh_lint.proofs.warnings.unknown_names.Goals as goal

pub returns : goal.returns
unfolding unknown_names
returns c =
    three-rows _ _ _ _ _ _ _ c.new-warnings.ensures.items c.in_ok-add_of_file.ensures
    (c.in_ok-add_of_subject.ensures ∙ ap (λ s. c.add_of_file.new.findings.items ++ unknown_of (knows_in c.args.names.now.texts.keys c.args.commands.now.entries) (view c.args.root.now) s) c.by_default.ensures)
    c.in_ok-add_of_subjects.ensures
