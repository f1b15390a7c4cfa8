use Rattle.std.proofs.Common.{◌≡◌, inl, inr, Bool, true, false, set, length, Some, Err, refl, sym, ◌∙◌, ap, subst}
use Rattle.std.proofs.lemmas.Option.{slice_get_read}
use Rattle.std.specs.Prelude.{is_some, IsSome}
use Rattle.bh_base.specs.Runs.{View}
use Rattle.bh_core.specs.CoreView.{CoreView, view_at, with_retired}
use Rattle.bh_core.specs.Looks.{is_in_use}
use Rattle.bh_port.specs.Entries.{entry_at, without}
use Rattle.bh_port.specs.GroupsView.{GroupsView}
use Rattle.bh_port.specs.Kept.{AreOf}
use Rattle.bh_port.proofs.Keeping.{of_retired, read}
use Rattle.bh_port.proofs.Naming.{entry_within, numbered-without, without_is}
use Rattle.bh_port.proofs.Noting.{latest-without}
use Rattle.bh_port.proofs.groups.Groups.retire.Goals as goal

pub invariant_of-self : goal.invariant_of-self
invariant_of-self c =
    let es = c.self.inside.entries.items in
    let n = c.args.group.0 in
    let there : IsSome (entry_at es n) = subst (λ (g : GroupsView). IsSome (entry_at g.entries n)) (sym c.self.view_is) c.requires in
    let at = slice_get_read es (length es) n c.index_mut.result.now refl (entry_within es n there) c.index_mut.ensures.value in
    let (v, shown, is) = c.in-Ok.ensures.ended in (
      numbered-without es n c.index_mut.result.now c.self.inside.numbers at c.self.invariant.0,
      subst (AreOf c.retire.new.self) (without_is es n c.index_mut.result.now at) (of_retired c.self.inside.core c.retire.new.self es n v shown is c.self.invariant.1),
      latest-without es n c.index_mut.result.now c.self.inside.latest at c.self.invariant.2,
    )

not_true : (b : Bool) → (b ≡ true → ⊥) → b ≡ false
not_true true h = absurd (h refl)
not_true false h = refl

pub returns-in-Ok-clause-ended : goal.returns-in-Ok-clause-ended
returns-in-Ok-clause-ended c done =
    let es = c.self.inside.entries.items in
    let n = c.args.group.0 in
    let there : IsSome (entry_at es n) = subst (λ (g : GroupsView). IsSome (entry_at g.entries n)) (sym c.self.view_is) c.requires in
    let at = slice_get_read es (length es) n c.index_mut.result.now refl (entry_within es n there) c.index_mut.ensures.value in
    let (v, shown, is) = c.in-Ok.ensures.ended in
    let unused = not_true (is_in_use v) (λ used. let both = (c.in-Ok.ensures.busy v shown).1 used in cc) in
    subst (λ (g : GroupsView). (v : View) × (view_at g.core n ≡ Some v) × (is_in_use v ≡ false) × (c.retire.new.self ≡ with_retired n v g.core) × (set es n (record c.index_mut.result.now { live = false }) ≡ without n g.entries))
    c.self.view_is (v, shown, unused, is, sym (without_is es n c.index_mut.result.now at))

pub returns-in-Err-Busy-clause-held : goal.returns-in-Err-Busy-clause-held
returns-in-Err-Busy-clause-held c done =
    let es = c.self.inside.entries.items in
    let n = c.args.group.0 in
    let there : IsSome (entry_at es n) = subst (λ (g : GroupsView). IsSome (entry_at g.entries n)) (sym c.self.view_is) c.requires in
    let in_core : is_some (view_at c.self.inside.core n) ≡ true = c.self.invariant.1.there n ∙ there in
    elim (read (view_at c.self.inside.core n)) [
      | inl none ↦ absurd (let both : false ≡ true = sym (ap is_some none) ∙ in_core in cc)
      | inr at ↦ (
        at.0,
        ap (λ (g : GroupsView). view_at g.core n) (sym c.self.view_is) ∙ at.1,
        (c.in-Err-Busy.ensures.busy at.0 at.1).0 (ap Err c.in-Err-Busy.field-0-is),
        ap (λ (k : CoreView). let g : GroupsView = record { entries = es; core = k } in g) c.in-Err-Busy.ensures.err ∙ c.self.view_is,
      )
    ]
