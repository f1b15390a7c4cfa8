use Rattle.std.proofs.Common.{◌≡◌, ◌≤◌, length, slice_get, take}
use Rattle.bh_slot_arena.specs.Slots.{slots_on}
use Rattle.bh_cache.specs.Slots.{has}
use Rattle.bh_cache.specs.Cache.{IsDroppedFrom}
use Rattle.bh_cache.specs.Notes.{AreNoted}
use Rattle.bh_cache.proofs.Along.{IsAlong}
use Rattle.bh_cache.proofs.dropping.drop_chain.Given as goal

abbrev pub invariant-loop : goal.invariant-loop
invariant-loop l = record {
  end : l.end ≡ length (slots_on l.initial.arena 2 l.chain);
  here : l.counter ≤ length (slots_on l.initial.arena 2 l.chain);
  ahead : l.ahead ≡ slice_get (slots_on l.initial.arena 2 l.chain) l.counter;
  along : IsAlong (slots_on l.arena 2 l.chain) (slots_on l.initial.arena 2 l.chain) l.counter;
  dropped : IsDroppedFrom l.context l.lists (take l.counter (slots_on l.initial.arena 2 l.chain)) l.initial.arena l.arena l.number;
  noted : AreNoted l.context (λ x. has x (take l.counter (slots_on l.initial.arena 2 l.chain))) l.initial.arena l.initial.notes l.notes;
}
