use Rattle.bh_workers.proofs.Working.{turn_made}
use Rattle.bh_workers.proofs.environment.Environment.turn.Goals as goal

pub returns-in-Assigned-clause-adds : goal.returns-in-Assigned-clause-adds
returns-in-Assigned-clause-adds g c =
    let n = rw c.in-Assigned.is at c.in-Ok.ensures.adds in
    turn_made g.D.Dependency.ends g.C.Clock.moments c.args.self.now.shared.now.audited c.run_to_end.result c.args.pass.now c.next.new.pass c.run_to_end.new.pass c.in-Assigned.serial c.in-Assigned.command c.in-Assigned.arg n.0
    n.1 n.2 c.run_to_end.ensures.adds
