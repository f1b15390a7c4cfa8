use Rattle.std.proofs.Common.{◌≡◌, ◌++◌, List, ℕ}
use Rattle.bh_base.specs.Props.{GroupProps}
use Rattle.bh_look.specs.Watched.{AreNewLanes}
use Rattle.bh_look.proofs.watch.all_lanes.Given as goal

abbrev pub invariant-loop-name : goal.invariant-loop-name
invariant-loop-name l = (done : List (List ℕ × GroupProps)) × (l.settings.groups.entries ≡ done ++ l._name-iterator) × AreNewLanes done l.lanes.items
