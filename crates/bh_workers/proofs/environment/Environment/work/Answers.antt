use Rattle.bh_workers.proofs.Working.{work_begins, work_goes_on, work_ends}
use Rattle.bh_workers.proofs.environment.Environment.work.Goals as goal

pub loop-init : goal.loop-init
loop-init g c = record {
  next = tt;
  finite = tt;
  runs = work_begins g.D.Dependency.ends g.C.Clock.moments c.args.self.now.shared.now.audited c.args.pass.now;
}

pub loop-preserved : goal.loop-preserved
loop-preserved g c = record {
  next = tt;
  finite = tt;
  runs =
      (let turned = rw c.if-not-turn.false at c.turn.ensures.adds in
      work_goes_on g.D.Dependency.ends g.C.Clock.moments c.args.self.now.shared.now.audited c.args.pass.now c.loop.pass c.turn.new.pass c.loop.invariant.runs turned);
}

pub returns-then-not-turn-clause-work : goal.returns-then-not-turn-clause-work
returns-then-not-turn-clause-work g c =
    let turned = rw c.if-not-turn.true at c.turn.ensures.adds in
    work_ends g.D.Dependency.ends g.C.Clock.moments c.args.self.now.shared.now.audited c.args.pass.now c.loop.pass c.turn.new.pass c.loop.invariant.runs turned
