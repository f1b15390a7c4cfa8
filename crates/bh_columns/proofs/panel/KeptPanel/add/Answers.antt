use Rattle.std.proofs.Common.{◌≡◌, ◌∙◌, Some, ap, length, sym}
use Rattle.std.specs.Prelude.{slice_get}
use Rattle.bh_base.specs.Machine.{circuit_of}
use Rattle.bh_look.specs.declared.lane.Lane.{Lane}
use Rattle.bh_columns.specs.Columns.{told_of}
use Rattle.bh_columns.specs.Panels.{FitsLanes, HasAdded, HasAddedTime, HasAddedTold}
use Rattle.bh_columns.proofs.Lanes.{both_added}
use Rattle.bh_columns.proofs.Lists.{each_then}
use Rattle.bh_columns.proofs.panel.KeptPanel.add.Goals as goal

pub returns-clause-lanes : goal.returns-clause-lanes
returns-clause-lanes c = λ v at fit count.
    let width = c.args.grid.now.width in
    let when = c.args.when.now in
    let old = c.args.self.now.lanes.items in
    let mid = c.add_time.new.self.lanes.items in
    let new = c.add_told.new.self.lanes.items in
    let steps = ap (λ s. s.items) c.add_time.ensures.steps in
    let again : FitsLanes v mid = record { count = c.add_time.ensures.lanes.count ∙ fit.count; few = fit.few } in
    let told = c.add_told.ensures.lanes v at again (ap length steps ∙ count ∙ sym c.add_time.ensures.lanes.count) in
    each_then old mid new (λ k lane next. HasAddedTime width when lane next)
    (λ k lane next. (step : Lane) → slice_get c.add_time.new.self.steps.items k ≡ Some step → HasAddedTold width when (told_of step.tally) (circuit_of k v.present).state lane next)
    (λ k lane next. (step : Lane) → slice_get c.args.self.now.steps.items k ≡ Some step → HasAdded width when (told_of step.tally) (circuit_of k v.present).state lane next)
    (λ k x y z one two step had. both_added width when (told_of step.tally) (circuit_of k v.present).state x y z one (two step (ap (λ ss. slice_get ss k) steps ∙ had)))
    c.add_time.ensures.lanes told
