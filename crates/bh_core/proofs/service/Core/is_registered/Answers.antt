use Rattle.std.proofs.Common.{◌∙◌}
use Rattle.std.specs.Borrow.{Bor}
use Rattle.bh_core.specs.GroupView.{GroupView}
use Rattle.bh_core.proofs.AllGroups.{told_some}
use Rattle.bh_core.proofs.service.Core.is_registered.Goals as goal

pub returns : goal.returns
returns c =
    rw (← c.self.view_is) (c.is_some.ensures ∙ told_some (λ (b : Bor GroupView). b.now) c.self.inside.tickets c.self.inside.groups.items c.args.group.0 c.find.result (rw c.deref.ensures.value at c.find.ensures.found) (rw c.deref.ensures.value at c.find.ensures.missing))
