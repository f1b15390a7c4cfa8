use Rattle.std.proofs.Common.{◌≡◌, ◌++◌, take}
use Rattle.std.specs.List.{flat_map}
use Rattle.toml.specs.View.{view}
use Rattle.bh_lint.specs.Findings.{bad_values_of}
use Rattle.bh_lint.proofs.errors.add_bad_values.Given as goal

abbrev pub invariant-loop-subject : goal.invariant-loop-subject
invariant-loop-subject l = l.errors.items ≡ l.initial.errors.items ++ flat_map (bad_values_of l.fault (view l.sections.root.now)) (take l.subject-index l.subjects)
