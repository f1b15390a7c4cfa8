use Rattle.bh_workers.proofs.Telling.{call_tells}
use Rattle.bh_workers.proofs.laws.calls_collect_their_own_tickets.Goals as goal

pub returns : goal.returns
returns g c = λ group request result made call. call_tells g.D.Dependency.ends g.D.Dependency.fallback_ends g.C.Clock.moments group request result made call
