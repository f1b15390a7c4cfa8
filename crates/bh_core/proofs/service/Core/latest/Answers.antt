use Rattle.std.proofs.Common.{refl}
use Rattle.bh_core.proofs.AllGroups.{not_shown}
use Rattle.bh_core.proofs.service.Core.latest.Goals as goal

pub returns-in-None-clause-known : goal.returns-in-None-clause-known
returns-in-None-clause-known c = λ v shown. absurd (not_shown c.self.inside.tickets c.self.inside.groups.items c.args.group.0 v (rw c.deref.ensures.value at c.in-None.ensures.missing refl) (rw (← c.self.view_is) at shown))
