use Rattle.bh_workers.specs.Timing.{AreTimed}
use Rattle.bh_workers.proofs.timer.timer_loop.Given as goal

abbrev pub invariant-loop : goal.invariant-loop
invariant-loop g l = record {
  next : (goal.iterator-loop g).can_next l.iterator';
  finite : (goal.iterator-loop g).is_finite l.iterator';
  timed : AreTimed g.C.Clock.moments l.shared.audited l.fn.passes l.passes;
}
