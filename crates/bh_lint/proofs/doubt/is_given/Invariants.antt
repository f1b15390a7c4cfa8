use Rattle.std.proofs.Common.{◌≡◌, drop}
use Rattle.std.specs.List.{list_any}
use Rattle.toml.specs.View.{view}
use Rattle.bh_lint.specs.Doubt.{is_given}
use Rattle.bh_lint.proofs.doubt.is_given.Given as goal

abbrev pub invariant-loop-property : goal.invariant-loop-property
invariant-loop-property l =
    list_any (is_given (view l.given.sections.root.now) l.given.name.now) (drop l.property-index l.properties)
    ≡ list_any (is_given (view l.given.sections.root.now) l.given.name.now) l.properties
