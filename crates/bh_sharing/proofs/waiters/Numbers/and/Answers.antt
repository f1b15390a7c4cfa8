use Rattle.bh_sharing.proofs.Waking.{in-both}
use Rattle.bh_sharing.proofs.waiters.Numbers.and.Goals as goal

pub returns : goal.returns
returns c = λ k. rw (← c.self.view_is, ← c.others.view_is) (in-both c.self.inside.0 c.others.inside.0 k)
