use Rattle.std.proofs.Common.{◌≡◌, take}
use Rattle.toml.specs.View.{view}
use Rattle.bh_base.specs.Commands.{each_from}
use Rattle.bh_props.specs.Commands.{Commands}
use Rattle.bh_props.specs.ByGroup.{AreByGroup}
use Rattle.bh_props.specs.Settings.{group_in_force}
use Rattle.bh_props.proofs.settings.groups_in_force.Given as goal

abbrev pub invariant-loop-place : goal.invariant-loop-place
invariant-loop-place l =
    (commands : Commands) → AreByGroup commands l.further
    → l.groups.entries ≡ each_from 0 (group_in_force (view l.sections.root.now) commands) (take l.place l.names)
