use Rattle.std.proofs.Common.{◌<◌, ◌∙◌, ap, arith, length, sym}
use Rattle.std.specs.Prelude.{vec_capacity, vec_len}
use Rattle.bh_lease.specs.Lease.{has}
use Rattle.bh_lease.specs.declared.lease.Part.TheVariants as part
use Rattle.bh_lender.specs.Settling.{with_holder}
use Rattle.bh_lender.proofs.Counting.{none_leaves, one_leaves}
use Rattle.bh_lender.proofs.returning.leave_each.Goals as goal
use Rattle.bh_lender.proofs.returning.leave_each.Goals.{then-has, else-has}

pub loop-lease-preserved : goal.loop-lease-preserved
loop-lease-preserved c =
    let within : c.loop-lease.lease-index < length c.args.leases.now = omega (arith, c.loop-lease-test.true) in
    elim c.if-has.branch [
      | then-has w ↦ record {
        items = ap (λ v. v.items) w.left-is ∙ w.leave.ensures.items ∙ ap (with_holder _ _) c.loop-lease.invariant.items
            ∙ sym (one_leaves (has part.Holder) c.args.leases.now c.loop-lease.lease-index _ c.args.left.now.items within (sym c.has.ensures ∙ w.if-has.true));
        room = omega (arith, c.loop-lease.invariant.room, w.leave.ensures.len, w.leave.ensures.capacity, ap vec_len w.left-is, ap vec_capacity w.left-is);
      }
      | else-has w ↦ record {
        items = ap (λ v. v.items) w.left-is ∙ c.loop-lease.invariant.items
            ∙ sym (none_leaves (has part.Holder) c.args.leases.now c.loop-lease.lease-index _ c.args.left.now.items within (sym c.has.ensures ∙ w.if-has.false));
        room = omega (arith, c.loop-lease.invariant.room, ap vec_len w.left-is, ap vec_capacity w.left-is);
      }
    ]
