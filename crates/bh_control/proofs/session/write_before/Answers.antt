use Rattle.bh_control.proofs.Holding.{moves-all, moves-none, none-whenever, at-error}
use Rattle.bh_control.proofs.session.write_before.Goals as goal

pub returns-then-may_wait-clause-none_held : goal.returns-then-may_wait-clause-none_held
returns-then-may_wait-clause-none_held g c = none-whenever c.write_held.result _ _ c.write_held.ensures.none_held

pub returns-then-may_wait-clause-ok : goal.returns-then-may_wait-clause-ok
returns-then-may_wait-clause-ok g c = moves-all c.write_held.result _ _ _ _ c.write_held.ensures.ok c.write_held.ensures.none_held

pub returns-then-may_wait-clause-front : goal.returns-then-may_wait-clause-front
returns-then-may_wait-clause-front g c = at-error c.write_held.result c.write_held.ensures.front

pub returns-then-len-ge-MOST_HELD-clause-none_held : goal.returns-then-len-ge-MOST_HELD-clause-none_held
returns-then-len-ge-MOST_HELD-clause-none_held g c = none-whenever c.write_held-then-len-ge-MOST_HELD.result _ _ c.write_held-then-len-ge-MOST_HELD.ensures.none_held

pub returns-then-len-ge-MOST_HELD-clause-ok : goal.returns-then-len-ge-MOST_HELD-clause-ok
returns-then-len-ge-MOST_HELD-clause-ok g c = moves-all c.write_held-then-len-ge-MOST_HELD.result _ _ _ _ c.write_held-then-len-ge-MOST_HELD.ensures.ok c.write_held-then-len-ge-MOST_HELD.ensures.none_held

pub returns-then-len-ge-MOST_HELD-clause-front : goal.returns-then-len-ge-MOST_HELD-clause-front
returns-then-len-ge-MOST_HELD-clause-front g c = at-error c.write_held-then-len-ge-MOST_HELD.result c.write_held-then-len-ge-MOST_HELD.ensures.front

pub returns-clause-ok : goal.returns-clause-ok
returns-clause-ok g c = moves-none _ _
