use Rattle.bh_lint.proofs.Used.{used_can_change}
use Rattle.bh_lint.proofs.laws.used_can_change.Goals as goal

pub returns : goal.returns
returns c = used_can_change
