use Rattle.std.proofs.Common.{◌≡◌, ◌++◌, take}
use Rattle.std.specs.List.{flat_map}
use Rattle.toml.specs.View.{view}
use Rattle.bh_lint.specs.Findings.{doubt_at}
use Rattle.bh_lint.proofs.warnings.add_doubts_in.Given as goal

abbrev pub invariant-loop-doubt : goal.invariant-loop-doubt
invariant-loop-doubt l = l.warnings.items ≡ l.initial.warnings.items ++ flat_map (doubt_at (view l.given.sections.root.now) l.name) (take l.doubt-index l.doubts)
