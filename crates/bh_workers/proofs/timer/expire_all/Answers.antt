use Rattle.bh_workers.proofs.Expiring.{rounds}
use Rattle.bh_workers.proofs.timer.expire_all.Goals as goal

pub loop-place-preserved : goal.loop-place-preserved
loop-place-preserved g c =
    rounds g.C.Clock.moments c.args.shared.now.audited c.args.passes.now c.loop-place.passes c.expire_next-place.new.passes c.loop-place.invariant c.expire_next-place.ensures.timed
