use Rattle.std.proofs.Common.{◌≡◌, ◌<◌, ◌≤◌, ◌-◌, ℕ, IfSome, true, length, slice_get}
use Rattle.bh_lender.specs.declared.lender.Left.{Left}
use Rattle.bh_lender.specs.Settling.{is_waiting}
use Rattle.bh_lender.proofs.settling.ready_from.Given as goal

abbrev pub invariant-loop-place : goal.invariant-loop-place
invariant-loop-place l = record {
  begun : l.from ≤ l.place;
  waiting : (k : ℕ) → l.from ≤ k → k < l.place → IfSome (slice_get l.left k) (λ (x : Left). is_waiting l.core.groups x ≡ true);
}

abbrev pub decreases-loop-place : goal.decreases-loop-place
decreases-loop-place l = length l.left - l.place
