use Rattle.std.proofs.Common.{◌≡◌}
use Rattle.bh_audit.proofs.guarded.Guarded.ask.Given as goal

abbrev pub invariant-loop : goal.invariant-loop
invariant-loop g l =
    (goal.iterator-loop g).can_next l.iterator' × (goal.iterator-loop g).is_finite l.iterator' × (l.pass ≡ l.fn.pass) × (l.reply ≡ l.fn.reply)
