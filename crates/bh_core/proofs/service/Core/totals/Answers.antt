use Rattle.std.proofs.Common.{◌∙◌, sym, ap, refl}
use Rattle.bh_base.specs.Runs.{View}
use Rattle.bh_core.specs.Looks.{totals_shown}
use Rattle.bh_core.proofs.AllGroups.{not_shown, shown_is, shown_some}
use Rattle.bh_core.proofs.service.Core.totals.Goals as goal

pub returns-in-Some-clause-known : goal.returns-in-Some-clause-known
returns-in-Some-clause-known c = λ v shown.
    let same = shown_is c.self.inside.tickets c.self.inside.groups.items c.args.group.0 c.in-Some.found.now v (rw c.deref.ensures.value at c.in-Some.ensures.found) (rw (← c.self.view_is) at shown) in
    c.totals.ensures c.self.inside.tickets ∙ ap (λ (x : View). totals_shown c.args.command x) (sym same)

pub returns-in-Some-clause-unknown : goal.returns-in-Some-clause-unknown
returns-in-Some-clause-unknown c = λ none. absurd (shown_some c.self.inside.tickets c.self.inside.groups.items c.args.group.0 c.in-Some.found.now (rw c.deref.ensures.value at c.in-Some.ensures.found) (rw (← c.self.view_is) at none))

pub returns-in-None-clause-known : goal.returns-in-None-clause-known
returns-in-None-clause-known c = λ v shown. absurd (not_shown c.self.inside.tickets c.self.inside.groups.items c.args.group.0 v (rw c.deref.ensures.value at c.in-None.ensures.missing refl) (rw (← c.self.view_is) at shown))
