use Rattle.std.proofs.Common.{◌≡◌, ◌++◌, length}
use Rattle.bh_props.specs.Commands.{Commands}
use Rattle.bh_props.specs.ByGroup.{AreByGroup}
use Rattle.bh_props.proofs.by_group.by_group.Given as goal

abbrev pub invariant-loop-name : goal.invariant-loop-name
invariant-loop-name l =
    (done : Commands) × (l.commands.entries ≡ done ++ l.name-iterator) × (length l.lists.items ≡ l.groups) × AreByGroup done l.lists.items
