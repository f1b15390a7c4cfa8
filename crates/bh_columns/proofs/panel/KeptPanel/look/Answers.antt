use Rattle.std.proofs.Common.{sym, subst}
use Rattle.bh_columns.specs.Panels.{FitsLanes, HasLooked}
use Rattle.bh_columns.proofs.Lists.{each_items}
use Rattle.bh_columns.proofs.panel.KeptPanel.look.Goals as goal

pub returns-clause-lanes : goal.returns-clause-lanes
returns-clause-lanes c = λ v at fit.
    each_items c.args.self.now.lanes c.deref_mut.result.now c.look_all.new.lanes (λ k lane next. HasLooked v k c.args.touched lane next) c.deref_mut.ensures.value
    (c.look_all.ensures v at (subst (FitsLanes v) (sym c.deref_mut.ensures.value) fit))
