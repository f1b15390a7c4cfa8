use Rattle.std.proofs.Common.{◌≡◌, [], ◌+◌, ◌<◌, ◌∙◌, refl, sym, arith, length, List, filter, map, subst, take}
use Rattle.bh_lease.specs.Lease.{has}
use Rattle.bh_lender.specs.Lender.{end_step}
use Rattle.bh_lender.specs.Recorded.{RecordedView}
use Rattle.bh_lender.specs.Steps.{AreSteps, Made, steps_of}
use Rattle.bh_lender.proofs.Returned.{end_more, one_fails}
use Rattle.bh_lender.proofs.returning.end_each.Goals as goal
use Rattle.bh_lender.proofs.returning.end_each.Goals.{then-has, else-has}

pub loop-lease-init : goal.loop-lease-init
loop-lease-init c = ([], refl, refl)

pub loop-lease-preserved : goal.loop-lease-preserved
loop-lease-preserved c =
    let made : List Made = c.loop-lease.invariant.0 in
    let within : c.loop-lease.lease-index < length c.args.leases.now = omega (arith, c.loop-lease-test.true) in
    elim c.if-has.branch [
      | then-has w ↦ (let P : RecordedView → Type 0 = λ groups. (all : List Made) × AreSteps c.args.core.now all groups × (steps_of all ≡ map (end_step c.args.now c.args.part) (filter (has c.args.part) (take (c.loop-lease.lease-index + 1) c.args.leases.now))) in
          subst P (sym w.core-is) (end_more c.args.now c.args.part c.args.leases.now c.loop-lease.lease-index _ c.args.core.now made c.loop-lease.core w.apply_to.new.reply w.apply_to.new.self
          c.loop-lease.invariant.1 c.loop-lease.invariant.2 within (sym c.has.ensures ∙ w.if-has.true) (rw w.end_of-op.ensures at w.apply_to.ensures)))
      | else-has w ↦ (
        made,
        (let P : RecordedView → Type 0 = λ groups. AreSteps c.args.core.now made groups in subst P (sym w.core-is) c.loop-lease.invariant.1),
        c.loop-lease.invariant.2 ∙ sym (one_fails (has c.args.part) (end_step c.args.now c.args.part) c.args.leases.now c.loop-lease.lease-index _ within (sym c.has.ensures ∙ w.if-has.false)),
      )
    ]
