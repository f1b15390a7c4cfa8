use Rattle.std.proofs.Common.{◌≡◌, ◌≤◌, length, slice_get, take}
use Rattle.bh_slot_arena.specs.Slots.{slots_on}
use Rattle.bh_tickets.specs.Sweeps.{IsReleasedFrom}
use Rattle.bh_tickets.specs.Whole.{KeepsTable}
use Rattle.bh_cache.proofs.Along.{IsAlong}
use Rattle.bh_tickets.proofs.sweeps.release_on.Given as goal

abbrev pub invariant-loop : goal.invariant-loop
invariant-loop l = record {
  end : l.end ≡ length (slots_on l.initial.arena 0 l.list);
  here : l.counter ≤ length (slots_on l.initial.arena 0 l.list);
  ahead : l.ahead ≡ slice_get (slots_on l.initial.arena 0 l.list) l.counter;
  along : IsAlong (slots_on l.arena 0 l.list) (slots_on l.initial.arena 0 l.list) l.counter;
  released : IsReleasedFrom (take l.counter (slots_on l.initial.arena 0 l.list)) l.initial.arena l.initial.group l.arena l.group;
  table : KeepsTable l.initial.arena l.initial.group l.initial.table l.arena l.group l.table;
}
