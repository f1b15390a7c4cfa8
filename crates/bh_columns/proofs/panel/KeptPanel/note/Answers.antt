use Rattle.std.proofs.Common.{◌≡◌, ◌∙◌, Some, ap, length, sym, subst}
use Rattle.std.specs.Prelude.{slice_get}
use Rattle.bh_base.specs.Machine.{circuit_of}
use Rattle.bh_look.specs.declared.lane.Lane.{Lane}
use Rattle.bh_columns.specs.Columns.{told_of}
use Rattle.bh_columns.specs.Panels.{EachAt, FitsLanes, HasNotedAt}
use Rattle.bh_columns.specs.Steps.{closes}
use Rattle.bh_columns.proofs.Lists.{each_items}
use Rattle.bh_columns.proofs.panel.KeptPanel.note.Goals as goal

pub returns-clause-lanes : goal.returns-clause-lanes
returns-clause-lanes c = λ v at fit count.
    let old = c.deref_mut.result.now in
    let is = c.deref_mut.ensures.value in
    let steps = c.as_slice.ensures.value in
    let each = c.note_all.ensures v at (subst (FitsLanes v) (sym is) fit) (ap length steps ∙ count ∙ sym (ap length is)) in
    each_items c.args.self.now.lanes old c.note_all.new.lanes (λ k lane next. (step : Lane) → slice_get c.args.self.now.steps.items k ≡ Some step → HasNotedAt c.args.index c.args.moment (told_of step.tally) (closes lane.circuit (circuit_of k v.present).state) lane next) is
    (subst (λ ss. EachAt old c.note_all.new.lanes (λ k lane next. (step : Lane) → slice_get ss k ≡ Some step → HasNotedAt c.args.index c.args.moment (told_of step.tally) (closes lane.circuit (circuit_of k v.present).state) lane next)) steps each)
