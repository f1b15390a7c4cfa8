use Rattle.std.proofs.Common.{refl, sym, ◌∙◌}
use Rattle.bh_serials.proofs.Alive.{none_in}
use Rattle.bh_serials.proofs.Left.{slot_found}
use Rattle.bh_serials.proofs.table.SerialTable.find.Goals as goal

pub returns-in_err-place : goal.returns-in_err-place
returns-in_err-place c =
    c.from_residual.ensures
    ∙ rw (← c.self.view_is) (sym (none_in c.self.inside.entries.items c.args.serial (rw c.deref.ensures.value at (c.in_err-place.ensures.none refl))))

pub returns : goal.returns
returns c =
    rw (← c.self.view_is) (slot_found c.self.inside.latest c.args.serial c.in_ok-place.place c.self.inside.entries.items c.self.invariant.rising (rw c.deref.ensures.value at c.in_ok-place.ensures.found) c.index.result.now c.index.ensures)
