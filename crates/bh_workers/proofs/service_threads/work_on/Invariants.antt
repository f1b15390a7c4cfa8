use Rattle.std.proofs.Common.{◌≡◌, []}
use Rattle.std.specs.List.{AllByRecursion}
use Rattle.bh_workers.specs.Driving.{IsWorkerPass}
use Rattle.bh_workers.proofs.service_threads.work_on.Given as goal

abbrev pub invariant-loop : goal.invariant-loop
invariant-loop g l = record {
  next : (goal.iterator-loop g).can_next l.iterator';
  finite : (goal.iterator-loop g).is_finite l.iterator';
  empty : l.pass.receipts ≡ [];
  passes : AllByRecursion (IsWorkerPass g.D.Dependency.ends g.C.Clock.moments) l.passes.items;
}
