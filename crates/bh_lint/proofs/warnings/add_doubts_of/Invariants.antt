use Rattle.std.proofs.Common.{◌≡◌, ◌++◌, take}
use Rattle.std.specs.List.{flat_map}
use Rattle.toml.specs.View.{view}
use Rattle.bh_lint.specs.Findings.{doubts_at}
use Rattle.bh_lint.proofs.warnings.add_doubts_of.Given as goal

abbrev pub invariant-loop-subject : goal.invariant-loop-subject
invariant-loop-subject l = l.warnings.items ≡ l.initial.warnings.items ++ flat_map (doubts_at (view l.sections.root.now)) (take l.subject-index l.subjects)
