use Rattle.std.proofs.Common.{◌∙◌, sym, ap, refl}
use Rattle.bh_base.specs.declared.step.Op.TheVariants as op
use Rattle.bh_base.specs.Runs.{View}
use Rattle.bh_base.specs.Seen.{view_reply}
use Rattle.bh_core.specs.Looks.{is_pending}
use Rattle.bh_core.proofs.AllGroups.{not_shown, shown_is, shown_some}
use Rattle.bh_core.proofs.service.Core.pending.Goals as goal

pub is_pending-requires : goal.is_pending-requires
is_pending-requires c = c.self.invariant.tickets c.args.group.0 c.in-Some.found.now (rw c.deref.ensures.value at c.in-Some.ensures.found)

pub returns-in-Some-clause-known : goal.returns-in-Some-clause-known
returns-in-Some-clause-known c = λ v moment shown.
    let same = shown_is c.self.inside.tickets c.self.inside.groups.items c.args.group.0 c.in-Some.found.now v (rw c.deref.ensures.value at c.in-Some.ensures.found) (rw (← c.self.view_is) at shown) in
    c.is_pending.ensures moment ∙ ap (λ (x : View). is_pending (view_reply x (op.Collect c.args.serial) moment)) (sym same)

pub returns-in-Some-clause-unknown : goal.returns-in-Some-clause-unknown
returns-in-Some-clause-unknown c = λ none. absurd (shown_some c.self.inside.tickets c.self.inside.groups.items c.args.group.0 c.in-Some.found.now (rw c.deref.ensures.value at c.in-Some.ensures.found) (rw (← c.self.view_is) at none))

pub returns-in-None-clause-known : goal.returns-in-None-clause-known
returns-in-None-clause-known c = λ v moment shown. absurd (not_shown c.self.inside.tickets c.self.inside.groups.items c.args.group.0 v (rw c.deref.ensures.value at c.in-None.ensures.missing refl) (rw (← c.self.view_is) at shown))
