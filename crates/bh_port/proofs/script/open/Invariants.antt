use Rattle.std.proofs.Common.{◌≡◌, ◌++◌, List, ℕ, map}
use Rattle.bh_base.specs.Props.{GroupProps}
use Rattle.bh_props.specs.Shown.{settings_view}
use Rattle.bh_port.proofs.Opening.{opened_life}
use Rattle.bh_port.proofs.script.open.Given as goal

abbrev pub invariant-loop-name : goal.invariant-loop-name
invariant-loop-name l =
    (done : List (List ℕ × GroupProps)) × (l.settings.groups.entries ≡ done ++ l._name-iterator)
    × (l.core ≡ record { slot_limit = 4_294_967_295; lives = map (opened_life (settings_view l.settings)) done })
