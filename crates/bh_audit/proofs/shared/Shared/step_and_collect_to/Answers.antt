use Rattle.bh_audit.proofs.Turns.{progress_told}
use Rattle.bh_audit.proofs.shared.Shared.step_and_collect_to.Goals as goal

pub returns-clause-adds : goal.returns-clause-adds
returns-clause-adds g c =
    let told = rw c.in-Progress.is at c.ask.ensures in
    progress_told g.C.Clock.moments c.args.self.now.audited c.args.step c.args.serial c.in-Progress.progress c.args.pass.now c.ask.new.pass c.ask.new.reply told.0 told.1
