use Rattle.std.proofs.Common.{◌≡◌, ◌++◌, take}
use Rattle.std.specs.List.{flat_map}
use Rattle.toml.specs.View.{view}
use Rattle.bh_lint.specs.Findings.{bad_value}
use Rattle.bh_lint.proofs.errors.add_bad_values_in.Given as goal

abbrev pub invariant-loop-property : goal.invariant-loop-property
invariant-loop-property l = l.errors.items ≡ l.initial.errors.items ++ flat_map (bad_value l.fault (view l.given.sections.root.now) l.name) (take l.property-index l.properties)
