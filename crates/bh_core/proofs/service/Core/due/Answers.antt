use Rattle.std.proofs.Common.{◌≡◌, ◌∙◌, [], sym, ap, refl}
use Rattle.bh_base.specs.declared.step.Op.TheVariants as op
use Rattle.bh_base.specs.Runs.{View}
use Rattle.bh_base.specs.Seen.{view_reply}
use Rattle.bh_core.specs.Looks.{expires_some}
use Rattle.bh_core.proofs.AllGroups.{not_shown, shown_is, shown_some}
use Rattle.bh_core.proofs.Looks.{empty_not_due}
use Rattle.bh_core.proofs.service.Core.due.Goals as goal

pub has_tickets-requires : goal.has_tickets-requires
has_tickets-requires c = c.self.invariant.tickets c.args.group.0 c.in-Some.found.now (rw c.deref.ensures.value at c.in-Some.ensures.found)

pub is_due-requires-clause-has : goal.is_due-requires-clause-has
is_due-requires-clause-has c = c.self.invariant.tickets c.args.group.0 c.in-Some.found.now (rw c.deref.ensures.value at c.in-Some.ensures.found)

pub is_due-requires-clause-steady : goal.is_due-requires-clause-steady
is_due-requires-clause-steady c = c.self.invariant.steady c.args.group.0 c.in-Some.found.now (rw c.deref.ensures.value at c.in-Some.ensures.found)

pub returns-then-has_tickets-clause-known : goal.returns-then-has_tickets-clause-known
returns-then-has_tickets-clause-known c = λ v shown.
    let same = shown_is c.self.inside.tickets c.self.inside.groups.items c.args.group.0 c.in-Some.found.now v (rw c.deref.ensures.value at c.in-Some.ensures.found) (rw (← c.self.view_is) at shown) in
    c.is_due.ensures ∙ ap (λ (x : View). expires_some (view_reply x op.Expire c.args.now)) (sym same)

pub returns-then-has_tickets-clause-unknown : goal.returns-then-has_tickets-clause-unknown
returns-then-has_tickets-clause-unknown c = λ none. absurd (shown_some c.self.inside.tickets c.self.inside.groups.items c.args.group.0 c.in-Some.found.now (rw c.deref.ensures.value at c.in-Some.ensures.found) (rw (← c.self.view_is) at none))

pub returns-else-has_tickets-clause-known : goal.returns-else-has_tickets-clause-known
returns-else-has_tickets-clause-known c = λ v shown.
    let same = shown_is c.self.inside.tickets c.self.inside.groups.items c.args.group.0 c.in-Some.found.now v (rw c.deref.ensures.value at c.in-Some.ensures.found) (rw (← c.self.view_is) at shown) in
    let none : v.present.tickets ≡ [] = ap (λ (x : View). x.present.tickets) same ∙ c.has_tickets.ensures c.if-has_tickets.false in
    c.if-has_tickets.false ∙ sym (empty_not_due v c.args.now none)

pub returns-in-None-clause-known : goal.returns-in-None-clause-known
returns-in-None-clause-known c = λ v shown. absurd (not_shown c.self.inside.tickets c.self.inside.groups.items c.args.group.0 v (rw c.deref.ensures.value at c.in-None.ensures.missing refl) (rw (← c.self.view_is) at shown))
