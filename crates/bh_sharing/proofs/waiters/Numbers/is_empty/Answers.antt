use Rattle.bh_sharing.proofs.Waking.{in-zero}
use Rattle.bh_sharing.proofs.waiters.Numbers.is_empty.Goals as goal

pub returns : goal.returns
returns c = λ none k. rw (← c.self.view_is) (in-zero c.self.inside.0 none k)
