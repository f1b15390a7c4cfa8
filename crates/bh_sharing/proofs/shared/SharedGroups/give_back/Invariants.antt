use Rattle.std.proofs.Common.{◌≡◌}
use Rattle.bh_sharing.proofs.shared.SharedGroups.give_back.Given as goal

abbrev pub invariant-loop : goal.invariant-loop
invariant-loop g l = l.leases ≡ l.fn.leases
