use Rattle.bh_workers.proofs.Progress.{settles_on}
use Rattle.bh_workers.proofs.environment.Environment.settle.Goals as goal

pub returns : goal.returns
returns g c =
    settles_on g.D.Dependency.ends g.D.Dependency.fallback_ends g.C.Clock.moments c.args.self.now.shared.now.audited c.args.pass.now c.collect.new.pass c.fall_back_where_due.new.pass
    c.args.serial c.args.request.now c.collect.new.reply c.fall_back_where_due.new.reply c.collect.ensures.made c.fall_back_where_due.ensures
