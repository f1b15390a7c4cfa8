use Rattle.std.specs.List.{AllByRecursion}
use Rattle.std.specs.Vec.Iter.{into_iter_items}
use Rattle.bh_workers.specs.Driving.{IsWorked, IsWorkerPass}
use Rattle.bh_workers.proofs.driving.passes_of.Given as goal

abbrev pub invariant-loop-passes : goal.invariant-loop-passes
invariant-loop-passes g l = record {
  all : AllByRecursion (IsWorkerPass g.D.Dependency.ends g.C.Clock.moments) l.all.items;
  left : AllByRecursion (IsWorked g.D.Dependency.ends g.C.Clock.moments) (into_iter_items l.passes-iterator);
}
