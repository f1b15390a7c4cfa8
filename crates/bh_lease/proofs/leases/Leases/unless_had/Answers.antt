use Rattle.std.proofs.Common.{ap, sym, cond, Bool, None, Some}
use Rattle.bh_lease.specs.Lease.{has_at}
use Rattle.bh_lease.proofs.Lists.{first_passes}
use Rattle.bh_lease.proofs.leases.Leases.unless_had.Goals as goal

pub returns-in-Some : goal.returns-in-Some
returns-in-Some c = sym (ap (λ (b : Bool). cond b None (Some c.args.refusal)) (first_passes (has_at c.args.group c.args.serial c.args.part) c.args.self.now.listed c.in-Some.field-0 c.in-Some.ensures.first))
