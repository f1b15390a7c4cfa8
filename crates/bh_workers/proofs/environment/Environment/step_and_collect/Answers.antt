use Rattle.bh_workers.proofs.Progress.{progress_room}
use Rattle.bh_workers.proofs.environment.Environment.step_and_collect.Goals as goal

pub returns-clause-room : goal.returns-clause-room
returns-clause-room g c =
    progress_room g.C.Clock.moments c.args.self.now.shared.now.audited c.args.pass.now c.step_and_collect_to.new.pass c.step_now-step.result c.args.serial c.in-Ok.progress c.step_and_collect_to.new.reply
    c.in-Ok.ensures.adds
