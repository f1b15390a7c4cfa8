use Rattle.std.proofs.Common.{◌≡◌, Some, set, false, true, ◌∙◌, sym, ap, subst, arith}
use Rattle.std.specs.List.{list_any}
use Rattle.std.specs.Prelude.{slice_get}
use Rattle.bh_core.specs.declared.service.entry.Entry.{Entry}
use Rattle.bh_core.specs.declared.service.entry.Entry.TheVariants as entry
use Rattle.bh_core.specs.CoreView.{shown_by}
use Rattle.bh_core.specs.GroupView.{view_in}
use Rattle.bh_core.specs.Looks.{is_in_use}
use Rattle.bh_core.specs.Whole.{AreGroups, retired_entry}
use Rattle.bh_core.proofs.AllGroups.{entry_here, groups_in, life_at, shown_is, shown_some}
use Rattle.bh_core.proofs.Retired.{groups_ended, groups_left, without_group}
use Rattle.bh_core.proofs.service.Core.retire.Goals as goal
use Rattle.bh_tickets.specs.TicketsView.{TicketsView, group_at, is_used}

pub any_used-requires : goal.any_used-requires
any_used-requires c =
    let here : slice_get c.self.inside.groups.items c.args.group.0 ≡ Some (entry.Live c.in-Live.found) = entry_here c.self.inside.groups.items c.args.group.0 c.index.result.now (omega arith) c.index.ensures ∙ ap Some c.in-Live.is in
    omega (arith, (c.self.invariant.tickets c.args.group.0 c.in-Live.found here).there, c.place-place.ensures)

pub invariant_of-self : goal.invariant_of-self
invariant_of-self c =
    let ts = c.self.inside.tickets in
    let es = c.self.inside.groups.items in
    let i = c.args.group.0 in
    let here : slice_get es i ≡ Some (entry.Live c.in-Live.found) = entry_here es i c.index.result.now (omega arith) c.index.ensures ∙ ap Some c.in-Live.is in
    let gone = c.retire_group.ensures ∙ ap (λ n. without_group n ts) c.place-place.ensures in
    let read : c.index_mut.result.now ≡ entry.Live c.in-Live.found = (let both : Some c.index_mut.result.now ≡ Some (entry.Live c.in-Live.found) = sym (entry_here es i c.index_mut.result.now (omega arith) c.index_mut.ensures.value) ∙ here in cc) in
    let entry_is = c.retire.ensures ∙ ap retired_entry read in
    subst (λ (us : TicketsView). AreGroups us (set es i c.retire.new.self)) (sym gone)
    (subst (λ (e : Entry). AreGroups (without_group c.in-Live.found.place ts) (set es i e)) (sym entry_is) (groups_left ts es i c.in-Live.found c.self.invariant here))

pub returns-clause-ended : goal.returns-clause-ended
returns-clause-ended c =
    let ts = c.self.inside.tickets in
    let es = c.self.inside.groups.items in
    let i = c.args.group.0 in
    let here : slice_get es i ≡ Some (entry.Live c.in-Live.found) = entry_here es i c.index.result.now (omega arith) c.index.ensures ∙ ap Some c.in-Live.is in
    let gone = c.retire_group.ensures ∙ ap (λ n. without_group n ts) c.place-place.ensures in
    let read : c.index_mut.result.now ≡ entry.Live c.in-Live.found = (let both : Some c.index_mut.result.now ≡ Some (entry.Live c.in-Live.found) = sym (entry_here es i c.index_mut.result.now (omega arith) c.index_mut.ensures.value) ∙ here in cc) in
    let entry_is = c.retire.ensures ∙ ap retired_entry read in
    rw (← c.self.view_is) (view_in ts c.in-Live.found, ap shown_by (life_at ts es i (entry.Live c.in-Live.found) here), (λ k. groups_in (gone k) (set es i (entry_is k))) ∙ groups_ended ts es i c.in-Live.found c.self.invariant here)

pub returns-clause-no_group : goal.returns-clause-no_group
returns-clause-no_group c =
    let ts = c.self.inside.tickets in
    let es = c.self.inside.groups.items in
    let i = c.args.group.0 in
    let here : slice_get es i ≡ Some (entry.Live c.in-Live.found) = entry_here es i c.index.result.now (omega arith) c.index.ensures ∙ ap Some c.in-Live.is in
    ((λ e. absurd cc), (λ none. absurd (shown_some ts es i c.in-Live.found here (rw (← c.self.view_is) at none))))

pub returns-clause-busy : goal.returns-clause-busy
returns-clause-busy c =
    let ts = c.self.inside.tickets in
    let es = c.self.inside.groups.items in
    let i = c.args.group.0 in
    let here : slice_get es i ≡ Some (entry.Live c.in-Live.found) = entry_here es i c.index.result.now (omega arith) c.index.ensures ∙ ap Some c.in-Live.is in
    λ v shown.
    let same : v ≡ view_in ts c.in-Live.found = shown_is ts es i c.in-Live.found v here (rw (← c.self.view_is) at shown) in
    let free : is_in_use v ≡ false = ap is_in_use same ∙ ap (λ n. list_any is_used (group_at ts n).items) (sym c.place-place.ensures) ∙ sym c.any_used.ensures ∙ c.if-any_used.false in
    ((λ e. absurd cc), (λ used. absurd (let both : false ≡ true = sym free ∙ used in cc)))
