use Rattle.bh_workers.proofs.Working.{ending_told}
use Rattle.bh_workers.proofs.environment.Environment.run_to_end.Goals as goal

pub returns-clause-adds : goal.returns-clause-adds
returns-clause-adds g c =
    let h = c.make_step.ensures.adds in
    ending_told g.D.Dependency.ends g.C.Clock.moments c.args.self.now.shared.now.audited c.was_taken.result c.args.pass.now c.make_step.new.pass c.group.result c.args.serial c.args.command c.args.arg.now
    c.run-end.result c.make_step.new.reply c.group.ensures c.run-end.ensures.named (rw c.end_op.ensures at h) c.was_taken.ensures
    (rw c.end_op.ensures at c.make_step.ensures.missing)
