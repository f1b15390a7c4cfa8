use Rattle.std.proofs.Common.{◌≡◌, ◌<◌, ℕ, IfSome, false, slice_get}
use Rattle.bh_lease.specs.Lease.{has_at}
use Rattle.bh_lease.specs.declared.lease.Lease.{Lease}
use Rattle.bh_lease.proofs.leases.Leases.find.Given as goal

abbrev pub invariant-loop-place : goal.invariant-loop-place
invariant-loop-place l = (k : ℕ) → k < l.place → IfSome (slice_get l.self.listed k) (λ (x : Lease). has_at l.group l.serial l.part x ≡ false)
