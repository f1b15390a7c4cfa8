use Rattle.std.proofs.Common.{◌≡◌, ◌-◌, ◌≤◌}
use Rattle.bh_sharing.specs.Locked.{AreExpiredAt}
use Rattle.bh_sharing.proofs.locked.Locked.expire_each.Given as goal

abbrev pub invariant-loop-number : goal.invariant-loop-number
invariant-loop-number g l =
    AreExpiredAt g.S.Service.facts.moments l.from (l.number - l.from) l.initial.self l.self × (l.to ≤ l.from → l.number ≡ l.from)
