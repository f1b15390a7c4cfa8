use Rattle.bh_workers.proofs.Working.{AddsSo, AreRuns}
use Rattle.bh_workers.proofs.environment.Environment.work.Given as goal

abbrev pub invariant-loop : goal.invariant-loop
invariant-loop g l = record {
  next : (goal.iterator-loop g).can_next l.iterator';
  finite : (goal.iterator-loop g).is_finite l.iterator';
  runs : AddsSo g.D.Dependency.ends g.C.Clock.moments l.self.shared.now.audited l.fn.pass l.pass (λ made. AreRuns g.D.Dependency.ends g.C.Clock.moments l.fn.pass.group made);
}
