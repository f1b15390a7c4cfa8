use Rattle.bh_sharing.proofs.Waking.{in-one_more}
use Rattle.bh_sharing.proofs.waiters.Numbers.with.Goals as goal

pub returns-then-number : goal.returns-then-number
returns-then-number c = λ k. rw (← c.self.view_is) (in-one_more c.self.inside.0 c.args.number k c.if-number.true)
