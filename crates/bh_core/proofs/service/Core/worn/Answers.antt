use Rattle.std.proofs.Common.{◌∙◌, sym, ap, refl}
use Rattle.bh_base.specs.Runs.{View, is_worn}
use Rattle.bh_core.proofs.AllGroups.{not_shown, shown_is, shown_some}
use Rattle.bh_core.proofs.Looks.{worn_seen}
use Rattle.bh_core.proofs.service.Core.worn.Goals as goal

pub returns-in-Some-clause-known : goal.returns-in-Some-clause-known
returns-in-Some-clause-known c = λ v o moment shown known.
    let same = shown_is c.self.inside.tickets c.self.inside.groups.items c.args.group.0 c.in-Some.found.now v (rw c.deref.ensures.value at c.in-Some.ensures.found) (rw (← c.self.view_is) at shown) in
    c.is_worn.ensures ∙ ap (λ (x : View). is_worn x.present) (sym same) ∙ worn_seen v o moment known

pub returns-in-Some-clause-unknown : goal.returns-in-Some-clause-unknown
returns-in-Some-clause-unknown c = λ none.
    absurd (shown_some c.self.inside.tickets c.self.inside.groups.items c.args.group.0 c.in-Some.found.now (rw c.deref.ensures.value at c.in-Some.ensures.found) (rw (← c.self.view_is) at none))

pub returns-in-None-clause-known : goal.returns-in-None-clause-known
returns-in-None-clause-known c = λ v o moment shown known.
    absurd (not_shown c.self.inside.tickets c.self.inside.groups.items c.args.group.0 v (rw c.deref.ensures.value at c.in-None.ensures.missing refl) (rw (← c.self.view_is) at shown))
