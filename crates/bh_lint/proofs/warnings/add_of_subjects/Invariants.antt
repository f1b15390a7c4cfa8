use Rattle.std.proofs.Common.{◌≡◌, ◌++◌, take}
use Rattle.std.specs.List.{flat_map}
use Rattle.toml.specs.View.{view}
use Rattle.bh_lint.specs.Table.{knows_in}
use Rattle.bh_lint.specs.Findings.{unknown_of}
use Rattle.bh_lint.proofs.warnings.add_of_subjects.Given as goal

abbrev pub invariant-loop-subject : goal.invariant-loop-subject
invariant-loop-subject l = l.warnings.items ≡ l.initial.warnings.items ++ flat_map (unknown_of (knows_in l.names.texts.keys l.commands.entries) (view l.root)) (take l.subject-index l.subjects)
