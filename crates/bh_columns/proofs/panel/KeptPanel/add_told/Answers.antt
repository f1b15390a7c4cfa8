use Rattle.std.proofs.Common.{◌≡◌, ◌∙◌, Some, true, false, sym, subst}
use Rattle.std.specs.Prelude.{slice_get}
use Rattle.bh_base.specs.Machine.{circuit_of}
use Rattle.bh_look.specs.declared.lane.Lane.{Lane}
use Rattle.bh_columns.specs.Columns.{told_of}
use Rattle.bh_columns.specs.Panels.{HasAddedTold, HasNotedAt}
use Rattle.bh_columns.specs.Spans.{lies}
use Rattle.bh_columns.specs.Steps.{closes}
use Rattle.bh_columns.proofs.Lanes.{told_added, told_nothing}
use Rattle.bh_columns.proofs.Lists.{each_same, each_weaker}
use Rattle.bh_columns.proofs.panel.KeptPanel.add_told.Goals as goal

pub returns-then-is_kept-clause-lanes : goal.returns-then-is_kept-clause-lanes
returns-then-is_kept-clause-lanes c = λ v at fit count.
    let width = c.args.grid.now.width in
    let when = c.args.when.now in
    let kept : lies when.from when.to when.moment ≡ true = sym c.is_kept.ensures ∙ c.if-is_kept.true in
    each_weaker c.args.self.now.lanes.items c.note.new.self.lanes.items
    (λ k lane next. (step : Lane) → slice_get c.args.self.now.steps.items k ≡ Some step → HasNotedAt c.index.result when.moment (told_of step.tally) (closes lane.circuit (circuit_of k v.present).state) lane next)
    (λ k lane next. (step : Lane) → slice_get c.args.self.now.steps.items k ≡ Some step → HasAddedTold width when (told_of step.tally) (circuit_of k v.present).state lane next)
    (λ k x y noted step had. told_added width when (told_of step.tally) (circuit_of k v.present).state x y c.args.grid.now.some_width kept
    (subst (λ n. HasNotedAt n when.moment (told_of step.tally) (closes x.circuit (circuit_of k v.present).state) x y) c.index.ensures (noted step had)))
    (c.note.ensures.lanes v at fit count)

pub returns-else-is_kept-clause-lanes : goal.returns-else-is_kept-clause-lanes
returns-else-is_kept-clause-lanes c = λ v at fit count.
    let when = c.args.when.now in
    let left_out : lies when.from when.to when.moment ≡ false = sym c.is_kept.ensures ∙ c.if-is_kept.false in
    each_same c.args.self.now.lanes.items (λ k lane next. (step : Lane) → slice_get c.args.self.now.steps.items k ≡ Some step → HasAddedTold c.args.grid.now.width when (told_of step.tally) (circuit_of k v.present).state lane next)
    (λ k x step had. told_nothing c.args.grid.now.width when (told_of step.tally) (circuit_of k v.present).state x left_out)
