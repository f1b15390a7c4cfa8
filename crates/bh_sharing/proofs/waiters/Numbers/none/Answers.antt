use Rattle.bh_sharing.proofs.Waking.{in-none}
use Rattle.bh_sharing.proofs.waiters.Numbers.none.Goals as goal

pub returns : goal.returns
returns c = λ k. in-none k
