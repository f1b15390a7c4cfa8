use Rattle.std.proofs.Common.{[], ◌<◌, refl, arith, length}
use Rattle.bh_lender.proofs.Returned.{close_more}
use Rattle.bh_lender.proofs.returning.close_each.Goals as goal

pub loop-within-init : goal.loop-within-init
loop-within-init c = ([], refl, refl)

pub loop-within-preserved : goal.loop-within-preserved
loop-within-preserved c =
    let inside : c.loop-within.within-index < length c.args.contexts.now = omega (arith, c.loop-within-test.true) in
    close_more c.args.now c.args.contexts.now c.loop-within.within-index _ c.args.core.now c.loop-within.invariant.0 c.loop-within.core c.apply_to.new.reply c.apply_to.new.self
    c.loop-within.invariant.1 c.loop-within.invariant.2 inside c.apply_to.ensures
