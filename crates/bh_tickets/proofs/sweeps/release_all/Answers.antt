use Rattle.std.proofs.Common.{subst, sym}
use Rattle.bh_cache.specs.declared.notes.Noted.{Noted}
use Rattle.bh_tickets.specs.GroupSlots.{IsReleased}
use Rattle.bh_tickets.proofs.ReleasedAll.{released_all}
use Rattle.bh_tickets.proofs.sweeps.release_all.Goals as goal

pub returns-clause-released : goal.returns-clause-released
returns-clause-released c =
    subst (λ (n : Noted). IsReleased c.args.arena.now c.args.group.now c.release_on-3.new.arena (record c.release_on-3.new.group { needless = n })) (sym c.nothing-group.ensures)
    (released_all c.args.arena.now c.args.group.now c.release_on.new.arena c.release_on.new.group c.release_on-2.new.arena c.release_on-2.new.group c.release_on-3.new.arena c.release_on-3.new.group c.requires.group c.release_on.ensures.released c.release_on-2.ensures.released c.release_on-3.ensures.released)

pub returns-clause-table : goal.returns-clause-table
returns-clause-table c = λ fits. c.release_on-3.ensures.table (c.release_on-2.ensures.table (c.release_on.ensures.table fits))
