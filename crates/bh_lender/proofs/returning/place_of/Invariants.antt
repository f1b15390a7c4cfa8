use Rattle.std.proofs.Common.{◌≡◌, ◌<◌, ℕ, IfSome, false, slice_get}
use Rattle.bh_lender.specs.Settling.{counts_more}
use Rattle.bh_lender.specs.declared.lender.Left.{Left}
use Rattle.bh_lender.proofs.returning.place_of.Given as goal

abbrev pub invariant-loop-place : goal.invariant-loop-place
invariant-loop-place l = (k : ℕ) → k < l.place → IfSome (slice_get l.left k) (λ (x : Left). counts_more l.group l.serial x ≡ false)
