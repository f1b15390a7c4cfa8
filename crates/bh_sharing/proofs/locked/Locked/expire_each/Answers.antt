use Rattle.std.proofs.Common.{arith, refl}
use Rattle.bh_sharing.proofs.Expiring.{expired_all, expired_more, expired_none, same_count}
use Rattle.bh_sharing.proofs.locked.Locked.expire_each.Goals as goal

pub loop-number-init : goal.loop-number-init
loop-number-init g c = (expired_none g.S.Service.facts.moments c.args.from c.args.self.now, λ none. refl)

pub loop-number-preserved : goal.loop-number-preserved
loop-number-preserved g c = (
  expired_more g.S.Service.facts.moments c.args.from c.loop-number.number c.args.self.now c.loop-number.self c.expire.new.self c.loop-number.auto.number c.loop-number.invariant.0 c.expire.ensures,
  λ none. absurd (omega (arith, none, c.loop-number.auto.number, c.loop-number-test.true)),
)

pub returns : goal.returns
returns g c =
    expired_all g.S.Service.facts.moments c.args.from _ _ c.args.self.now c.loop-number.self
    (same_count c.args.from c.args.to c.loop-number.number c.loop-number.auto.number c.loop-number.auto.number-end c.loop-number.invariant.1 c.loop-number-test.false) c.loop-number.invariant.0
