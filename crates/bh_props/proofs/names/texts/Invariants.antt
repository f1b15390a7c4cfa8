use Rattle.std.proofs.Common.{◌≡◌, ◌++◌, drop, map, option_map}
use Rattle.toml.specs.View.{items_view}
use Rattle.bh_props.specs.Names.{texts}
use Rattle.bh_props.proofs.names.texts.Given as goal

abbrev pub invariant-loop-value : goal.invariant-loop-value
invariant-loop-value l =
    option_map (λ rest. map (λ s. s.now) l.texts.items ++ rest) (texts (items_view (drop l.value-index l.values))) ≡ texts (items_view l.values)
