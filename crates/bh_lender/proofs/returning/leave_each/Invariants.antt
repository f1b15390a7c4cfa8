use Rattle.std.proofs.Common.{◌≡◌, ◌+◌, ◌≤◌, filter, length, take}
use Rattle.std.specs.Prelude.{vec_len, vec_capacity}
use Rattle.bh_lease.specs.Lease.{has}
use Rattle.bh_lease.specs.declared.lease.Part.TheVariants as part
use Rattle.bh_lender.specs.Lender.{left_with}
use Rattle.bh_lender.proofs.returning.leave_each.Given as goal

abbrev pub invariant-loop-lease : goal.invariant-loop-lease
invariant-loop-lease l = record {
  items : l.left.items ≡ left_with (filter (has part.Holder) (take l.lease-index l.leases)) l.initial.left.items;
  room : vec_len l.left + length l.leases ≤ vec_capacity l.left + l.lease-index;
}
