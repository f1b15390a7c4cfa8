use Rattle.std.proofs.Common.{◌≡◌, ◌≤◌, ◌-◌, None, replicate}
use Rattle.std.specs.Prelude.{vec_len}
use Rattle.bh_sharing.proofs.waiters.Waiters.new.Given as goal

abbrev pub invariant-loop-places : goal.invariant-loop-places
invariant-loop-places l = (l.places.items ≡ replicate (vec_len l.places) None) × (vec_len l.places ≤ l.connections)

abbrev pub decreases-loop-places : goal.decreases-loop-places
decreases-loop-places l = l.connections - vec_len l.places
