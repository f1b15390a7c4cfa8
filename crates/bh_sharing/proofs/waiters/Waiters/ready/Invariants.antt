use Rattle.bh_sharing.specs.Waiters.{has_number, is_told_anyhow}
use Rattle.bh_sharing.proofs.Waking.{AreFirst}
use Rattle.bh_sharing.proofs.waiters.Waiters.ready.Given as goal

abbrev pub invariant-loop-number : goal.invariant-loop-number
invariant-loop-number l = AreFirst (is_told_anyhow l.core l.self) l.number (has_number l.ready)
