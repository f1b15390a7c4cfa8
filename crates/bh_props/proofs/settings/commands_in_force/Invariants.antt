use Rattle.std.proofs.Common.{◌≡◌, ◌∷◌, map, take}
use Rattle.toml.specs.View.{view}
use Rattle.bh_props.specs.Settings.{command_in_force}
use Rattle.bh_props.proofs.settings.commands_in_force.Given as goal

abbrev pub invariant-loop-command : goal.invariant-loop-command
invariant-loop-command l =
    l.own.items ≡ command_in_force (view l.sections.root.now) l.group ∷ map (λ c. command_in_force (view l.sections.root.now) c.0) (take l.command-index l.further)
