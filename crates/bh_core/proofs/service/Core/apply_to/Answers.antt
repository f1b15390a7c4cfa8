use Rattle.std.proofs.Common.{◌≡◌, List, Some, set, ap, subst, sym, ◌∙◌, arith}
use Rattle.std.specs.Prelude.{slice_get}
use Rattle.bh_base.specs.declared.reply.Reply.TheVariants.{NoGroup}
use Rattle.bh_core.specs.declared.service.entry.Entry.{Entry}
use Rattle.bh_core.specs.declared.service.entry.Entry.TheVariants as entry
use Rattle.bh_core.specs.Step.{IsStep}
use Rattle.bh_core.proofs.AllGroups.{entry_here, groups_in, groups_kept, groups_step, no_entry, no_live, set_here, shown_none}
use Rattle.bh_core.proofs.OneStep.{step_unknown}
use Rattle.bh_core.proofs.service.Core.apply_to.Goals as goal

pub apply-requires-clause-has : goal.apply-requires-clause-has
apply-requires-clause-has c =
    let here : slice_get c.self.inside.groups.items c.args.group.0 ≡ Some (entry.Live c.in-Live.group) = entry_here c.self.inside.groups.items c.args.group.0 c.index_mut.result.now (omega arith) c.index_mut.ensures.value ∙ ap Some c.in-Live.is in
    c.self.invariant.tickets c.args.group.0 c.in-Live.group here

pub apply-requires-clause-steady : goal.apply-requires-clause-steady
apply-requires-clause-steady c =
    let here : slice_get c.self.inside.groups.items c.args.group.0 ≡ Some (entry.Live c.in-Live.group) = entry_here c.self.inside.groups.items c.args.group.0 c.index_mut.result.now (omega arith) c.index_mut.ensures.value ∙ ap Some c.in-Live.is in
    c.self.invariant.steady c.args.group.0 c.in-Live.group here

pub invariant_of-self : goal.invariant_of-self
invariant_of-self c =
    let here : slice_get c.self.inside.groups.items c.args.group.0 ≡ Some (entry.Live c.in-Live.group) = entry_here c.self.inside.groups.items c.args.group.0 c.index_mut.result.now (omega arith) c.index_mut.ensures.value ∙ ap Some c.in-Live.is in
    groups_kept c.self.inside.tickets c.apply.new.tickets c.self.inside.groups.items c.args.group.0 c.in-Live.group c.apply.new.self c.self.invariant here c.apply.ensures.left c.apply.ensures.has c.apply.ensures.steady

pub returns-then-place-len : goal.returns-then-place-len
returns-then-place-len c =
    let none = shown_none c.self.inside.tickets c.self.inside.groups.items c.args.group.0 (no_entry c.self.inside.groups.items c.args.group.0 (omega (arith, c.len.ensures, c.self.inside.groups.ok.0))) in
    rw (← c.self.view_is) (step_unknown (groups_in c.self.inside.tickets c.self.inside.groups.items) (record { group = c.args.group; now = c.args.now; op = c.args.op.now }) none)

pub returns-in-Live : goal.returns-in-Live
returns-in-Live c =
    let here : slice_get c.self.inside.groups.items c.args.group.0 ≡ Some (entry.Live c.in-Live.group) = entry_here c.self.inside.groups.items c.args.group.0 c.index_mut.result.now (omega arith) c.index_mut.ensures.value ∙ ap Some c.in-Live.is in
    rw (← c.self.view_is)
    (groups_step c.self.inside.tickets c.apply.new.tickets c.self.inside.groups.items c.in-Live.group c.apply.new.self (record { group = c.args.group; now = c.args.now; op = c.args.op.now }) c.apply.new.reply c.self.invariant here c.apply.ensures.left c.apply.ensures.reply c.apply.ensures.view)

pub returns-in-Retired : goal.returns-in-Retired
returns-in-Retired c =
    let es = c.self.inside.groups.items in
    let i = c.args.group.0 in
    let here : slice_get es i ≡ Some c.index_mut.result.now = entry_here es i c.index_mut.result.now (omega arith) c.index_mut.ensures.value in
    let none = shown_none c.self.inside.tickets es i (no_live es i c.in-Retired.field-0 (here ∙ ap Some c.in-Retired.is)) in
    let same : set es i c.index_mut.result.now ≡ es = set_here es i c.index_mut.result.now here in
    rw (← c.self.view_is) (subst (λ (ks : List Entry). IsStep (groups_in c.self.inside.tickets es) (record { group = c.args.group; now = c.args.now; op = c.args.op.now }) NoGroup (groups_in c.self.inside.tickets ks)) (sym same) (step_unknown (groups_in c.self.inside.tickets es) (record { group = c.args.group; now = c.args.now; op = c.args.op.now }) none))
