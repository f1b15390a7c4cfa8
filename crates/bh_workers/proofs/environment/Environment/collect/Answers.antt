use Rattle.bh_workers.proofs.Calling.{collects}
use Rattle.bh_workers.proofs.environment.Environment.collect.Goals as goal

pub returns-clause-made : goal.returns-clause-made
returns-clause-made g c =
    collects g.C.Clock.moments c.args.self.now.shared.now.audited c.args.pass.now c.await_answer_to.new.pass c.args.serial c.await_answer_to.new.reply c.in-Ok.ensures.kinds c.in-Ok.ensures.known c.in-Ok.ensures.adds
