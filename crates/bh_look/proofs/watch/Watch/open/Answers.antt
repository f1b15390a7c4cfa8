use Rattle.bh_look.proofs.Watching.{watched_new}
use Rattle.bh_look.proofs.watch.Watch.open.Goals as goal

pub returns-clause-watched : goal.returns-clause-watched
returns-clause-watched c = watched_new _ _ _ c.in_ok-groups.ensures.agrees c.in_ok-lanes.ensures
