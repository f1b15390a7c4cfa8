use Rattle.std.proofs.Common.{arith}
use Rattle.bh_core.specs.CoreView.{is_retired}
use Rattle.bh_audit.proofs.Accounting.{listed_next}
use Rattle.bh_audit.proofs.account.retirements.Goals as goal

pub loop-number-preserved : goal.loop-number-preserved
loop-number-preserved c =
    listed_next is_retired c.args.core.now.lives c.loop-number.number c.is_retired.result c.loop-number.retired.items c.push.new.self.items (omega arith) c.loop-number.invariant c.is_retired.ensures.known c.in_ok-push.ensures.items
