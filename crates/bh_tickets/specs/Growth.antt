-- How the arena grows by a group.
use Rattle.std.specs.Prelude.{◌≡◌, ℕ, ◌+◌, ◌-◌, ◌<◌, [], ◌∷◌, ◌++◌, length, nat_lt, replicate, if◌then◌else◌}
use Rattle.bh_base.specs.declared.ticket.Ticket.{Ticket}
use Rattle.bh_slot_arena.specs.Slots.{bounds_of, lists_in, with_new_slots, with_reserved}
use Rattle.bh_cache.specs.declared.lists.GroupLists.{GroupLists}
use Rattle.bh_cache.specs.Chains.{unchained}
use Rattle.bh_cache.specs.Slots.{Slots, IsArena}

-- a group's lists, in each family from a number on, with so many chains by cache name and as many by request context
abbrev pub lists_from : ℕ → ℕ → ℕ → ℕ → GroupLists
lists_from chains n k m = record {
  free = n;
  queued = n + 1;
  running = n + 2;
  settled = n + 3;
  names = k;
  names_end = k + chains;
  contexts = m;
  contexts_end = m + chains;
}

-- how many chains of each family a group with so many slots has
abbrev pub chains_for : ℕ → ℕ
chains_for slots = if nat_lt slots 256 then 16 else (if nat_lt slots 1024 then 64 else (if nat_lt slots 4096 then 256 else 1024))

-- so many empty lists more in each family, and all else is as before
pub record HasNewLists (n k m : ℕ) (a b : Slots) : Type 0 where
  pub bounds : bounds_of b ≡ bounds_of a
  pub payloads : b.payloads ≡ a.payloads
  pub families : length b.families ≡ length a.families
  pub first : lists_in b 0 ≡ lists_in a 0 ++ replicate n []
  pub second : lists_in b 1 ≡ lists_in a 1 ++ replicate k []
  pub third : lists_in b 2 ≡ lists_in a 2 ++ replicate m []

-- some empty lists more, and all else is as before
pub record HasMoreLists (a b : Slots) : Type 0 where
  pub first : ℕ
  pub second : ℕ
  pub third : ℕ
  pub lists : HasNewLists first second third a b

-- the lists for free slots are there, and a slot is reserved
pub record IsReadyFor (g : GroupLists) (a : Slots) : Type 0 where
  pub first : g.free < length (lists_in a 0)
  pub second : unchained < length (lists_in a 1)
  pub third : unchained < length (lists_in a 2)
  pub reserved : 0 < a.reserved

-- one of the reserved slots is there, on the lists for free slots
pub record IsGrown (g : GroupLists) (a b : Slots) : Type 0 where
  pub blank : Ticket
  pub is : b ≡ with_reserved (a.reserved - 1) (with_new_slots 1 (g.free ∷ unchained ∷ unchained ∷ []) blank a)
  pub arena : IsArena b 0
