use Rattle.std.proofs.Common.{◌≡◌, [], ◌∷◌, ◌++◌, ◌∙◌, sym, ap, subst, arith}
use Rattle.bh_base.specs.Props.{GroupProps}
use Rattle.bh_core.specs.declared.service.entry.Entry.TheVariants as entry
use Rattle.bh_core.specs.GroupView.{new_group}
use Rattle.bh_core.specs.Whole.{AreGroups}
use Rattle.bh_core.proofs.AllGroups.{groups_in}
use Rattle.bh_core.proofs.Registered.{groups_pushed, lives_pushed}
use Rattle.bh_core.proofs.service.Core.add_group.Goals as goal
use Rattle.bh_tickets.specs.TicketsView.{HasPlace}

pub add_group-requires-clause-within : goal.add_group-requires-clause-within
add_group-requires-clause-within c =
    omega (arith, c.self.invariant.slots, (rw (← c.self.view_is) at c.requires.within), ap (λ (p : GroupProps). p.slots) c.props.view_is)

pub invariant_of-self-2 : goal.invariant_of-self-2
invariant_of-self-2 c =
    let ts = c.self.inside.tickets in
    let us = c.add_group.new.self in
    let es = c.self.inside.groups.items in
    let g = new_group c.in_ok-place.place c.args.props.now c.args.step_limit in
    let taken : HasPlace c.in_ok-place.place c.args.props.now.slots ts us = subst (λ (p : GroupProps). HasPlace c.in_ok-place.place p.slots ts us) c.props.view_is c.in_ok-place.ensures.ok in
    let group : c.new-group.result ≡ g = c.new-group.ensures ∙ ap (λ (p : GroupProps). new_group c.in_ok-place.place p c.args.step_limit) c.in_ok-own.ensures in
    let groups : c.push_reserved.new.self.items ≡ es ++ entry.Live g ∷ [] = c.push_reserved.ensures.items ∙ (λ i. c.reserve.ensures.items i ++ entry.Live (group i) ∷ []) in
    subst (AreGroups us) (sym groups) (groups_pushed ts us es c.in_ok-place.place c.args.props.now c.args.step_limit c.self.invariant c.requires.props.some_commands c.requires.props.some_slots taken)

pub returns-clause-added : goal.returns-clause-added
returns-clause-added c =
    let ts = c.self.inside.tickets in
    let us = c.add_group.new.self in
    let es = c.self.inside.groups.items in
    let g = new_group c.in_ok-place.place c.args.props.now c.args.step_limit in
    let taken : HasPlace c.in_ok-place.place c.args.props.now.slots ts us = subst (λ (p : GroupProps). HasPlace c.in_ok-place.place p.slots ts us) c.props.view_is c.in_ok-place.ensures.ok in
    let group : c.new-group.result ≡ g = c.new-group.ensures ∙ ap (λ (p : GroupProps). new_group c.in_ok-place.place p c.args.step_limit) c.in_ok-own.ensures in
    let groups : c.push_reserved.new.self.items ≡ es ++ entry.Live g ∷ [] = c.push_reserved.ensures.items ∙ (λ i. c.reserve.ensures.items i ++ entry.Live (group i) ∷ []) in
    rw (← c.self.view_is) (ap (groups_in us) groups ∙ (λ i. record { slot_limit = taken.limit i; lives = lives_pushed ts us es c.in_ok-place.place c.args.props.now c.args.step_limit c.self.invariant c.requires.props.some_commands c.requires.props.some_slots taken i }))
