use Rattle.std.proofs.Common.{◌∙◌, arith, sym}
use Rattle.bh_lease.proofs.Lists.{fail_up_to, first_at, none_passes}
use Rattle.bh_lender.specs.Settling.{counts_more}
use Rattle.bh_lender.proofs.returning.place_of.Goals as goal

pub returns-then-counts_more-clause-first : goal.returns-then-counts_more-clause-first
returns-then-counts_more-clause-first c =
    first_at (counts_more c.args.group c.args.serial) c.args.left.now c.loop-place.place _ c.loop-place.invariant (omega (arith, c.loop-place-test.true))
    (sym c.counts_more.ensures ∙ c.if-counts_more.true)

pub loop-place-preserved : goal.loop-place-preserved
loop-place-preserved c =
    fail_up_to (counts_more c.args.group c.args.serial) c.args.left.now c.loop-place.place _ c.loop-place.invariant (omega (arith, c.loop-place-test.true))
    (sym c.counts_more.ensures ∙ c.if-counts_more.false)

pub returns-clause-none : goal.returns-clause-none
returns-clause-none c =
    none_passes (counts_more c.args.group c.args.serial) c.args.left.now (λ j lt. c.loop-place.invariant j (omega (arith, lt, c.loop-place-test.false)))
