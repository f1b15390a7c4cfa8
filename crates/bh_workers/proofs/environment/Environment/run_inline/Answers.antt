use Rattle.bh_workers.specs.Calls.{result_of}
use Rattle.bh_workers.proofs.Progress.{run_collected, run_refused, run_stepped}
use Rattle.bh_workers.proofs.environment.Environment.run_inline.Goals as goal

pub returns-in-Refused : goal.returns-in-Refused
returns-in-Refused g c =
    run_refused g.D.Dependency.ends g.D.Dependency.fallback_ends g.C.Clock.moments c.args.self.now.shared.now.audited c.args.pass.now c.step_and_collect.new.pass
    c.args.serial c.args.request.now c.run-end.result c.step_and_collect.new.reply (rw (c.end_op.ensures, c.in-Refused.is) at c.step_and_collect.ensures.adds)

pub returns-in-Stepped : goal.returns-in-Stepped
returns-in-Stepped g c =
    run_stepped g.D.Dependency.ends g.D.Dependency.fallback_ends g.C.Clock.moments c.args.self.now.shared.now.audited c.args.pass.now c.step_and_collect.new.pass c.settle.new.pass c.group.result
    c.args.serial c.args.request.now c.run-end.result c.step_and_collect.new.reply (result_of c.settle.new.reply)
    c.group.ensures c.run-end.ensures.named (rw (c.end_op.ensures, c.in-Stepped.is) at c.step_and_collect.ensures.adds) c.settle.ensures

pub returns-in-Collected : goal.returns-in-Collected
returns-in-Collected g c =
    run_collected g.D.Dependency.ends g.D.Dependency.fallback_ends g.C.Clock.moments c.args.self.now.shared.now.audited c.args.pass.now c.step_and_collect.new.pass c.fall_back_where_due.new.pass c.group.result
    c.args.serial c.args.request.now c.run-end.result c.step_and_collect.new.reply c.fall_back_where_due.new.reply
    c.group.ensures c.run-end.ensures.named (rw (c.end_op.ensures, c.in-Collected.is) at c.step_and_collect.ensures.adds) c.fall_back_where_due.ensures
