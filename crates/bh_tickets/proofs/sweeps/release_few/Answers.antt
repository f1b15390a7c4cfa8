use Rattle.std.proofs.Common.{◌≡◌, None, Some, length, take, refl, subst, sym, arith}
use Rattle.std.proofs.lemmas.Option.{slice_get_past, slice_get_read}
use Rattle.std.specs.Prelude.{slice_get}
use Rattle.bh_cache.specs.declared.notes.Noted.{Noted}
use Rattle.bh_cache.specs.declared.notes.Noted.TheVariants as noted
use Rattle.bh_tickets.specs.declared.group_slots.GroupSlots.{GroupSlots}
use Rattle.bh_tickets.specs.GroupSlots.{IsReleased}
use Rattle.bh_tickets.specs.Sweeps.{IsReleasedFrom}
use Rattle.bh_tickets.proofs.ReleasedAll.{released_few, released_next, released_past}
use Rattle.bh_tickets.proofs.sweeps.release_few.Goals as goal
use Rattle.bh_tickets.proofs.sweeps.release_few.Goals.{in-Some, in_default}

pub loop-index-preserved : goal.loop-index-preserved
loop-index-preserved c =
    let a = c.args.arena.now in
    let s : GroupSlots = record c.args.group.now { needless = noted.Many } in
    let xs = c.args.few.now.slots in
    elim c.match-get.branch [
      | in-Some w ↦
          let at : slice_get xs c.loop-index.index ≡ Some w.in-Some.slot.now = slice_get_read xs (length xs) c.loop-index.index w.in-Some.slot.now refl w.in-Some.ensures.lookup.3.0 w.in-Some.ensures.lookup.1 in
          record {
            released = rw w.arena-is (rw w.group-is (released_next xs c.loop-index.index w.in-Some.slot.now a s c.loop-index.arena c.loop-index.group w.release_noted.new.arena w.release_noted.new.group at c.loop-index.invariant.released w.release_noted.ensures.released));
            table = rw w.arena-is (rw w.group-is (rw w.table-is (λ fits. w.release_noted.ensures.table (c.loop-index.invariant.table fits))));
          }
      | in_default w ↦
          let out : slice_get xs c.loop-index.index ≡ None = slice_get_past xs c.loop-index.index w.in_default.ensures.lookup.3 in
          record {
            released = rw w.arena-is (rw w.group-is (released_past xs c.loop-index.index a s c.loop-index.arena c.loop-index.group out c.loop-index.invariant.released));
            table = rw w.arena-is (rw w.group-is (rw w.table-is c.loop-index.invariant.table));
          }
    ]

pub returns-clause-released : goal.returns-clause-released
returns-clause-released c =
    subst (λ (n : Noted). IsReleased c.args.arena.now c.args.group.now c.loop-index.arena (record c.loop-index.group { needless = n })) (sym c.nothing-group.ensures)
    (released_few c.args.arena.now c.args.group.now c.args.few.now c.loop-index.arena c.loop-index.group c.requires.group c.requires.noted
    (subst (λ n. IsReleasedFrom (take n c.args.few.now.slots) c.args.arena.now (record c.args.group.now { needless = noted.Many }) c.loop-index.arena c.loop-index.group) (omega arith) c.loop-index.invariant.released))

pub returns-clause-table : goal.returns-clause-table
returns-clause-table c = c.loop-index.invariant.table
