use Rattle.bh_workers.proofs.Expiring.{all_untouched, rounds}
use Rattle.bh_workers.proofs.timer.timer_loop.Goals as goal

pub loop-init : goal.loop-init
loop-init g c = record { next = tt; finite = tt; timed = all_untouched g.C.Clock.moments c.args.shared.now.audited c.args.passes.now }

pub loop-preserved : goal.loop-preserved
loop-preserved g c = record {
  next = tt;
  finite = tt;
  timed = rounds g.C.Clock.moments c.args.shared.now.audited c.args.passes.now c.loop.passes c.expire_all.new.passes c.loop.invariant.timed c.expire_all.ensures;
}
