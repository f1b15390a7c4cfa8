use Rattle.std.proofs.Common.{◌≡◌}
use Rattle.bh_sharing.proofs.client.Client.await_step.Given as goal

abbrev pub invariant-loop : goal.invariant-loop
invariant-loop g l = (l.self ≡ l.fn.self) × (l.out.items ≡ l.fn.out.items)
