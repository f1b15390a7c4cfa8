use Rattle.bh_columns.specs.Panels.{HasSpent}
use Rattle.bh_columns.proofs.Lists.{each_items}
use Rattle.bh_columns.proofs.panel.KeptPanel.spend.Goals as goal

pub returns-clause-lanes : goal.returns-clause-lanes
returns-clause-lanes c = each_items c.args.self.now.lanes c.deref_mut.result.now c.spend_all.new.lanes (λ k lane next. HasSpent c.args.reach.now c.args.since c.args.until lane next) c.deref_mut.ensures.value c.spend_all.ensures
