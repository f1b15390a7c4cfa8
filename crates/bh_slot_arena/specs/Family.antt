-- What the arena sees of one family.
use Rattle.std.specs.Prelude.{◌≡◌, ℕ, ◌+◌, ◌<◌, ◌≤◌, List, [], length, slice_index_or}
use Rattle.std.specs.List.{range_with_len}
use Rattle.bh_slot_arena.specs.Lists.{put_last}

-- how many slots there are, the slots of each list, and for how many slots more the memory is taken
pub record FamilyView : Type 0 where
  pub slots : ℕ
  pub lists : List (List ℕ)
  pub room : ℕ

-- no list and no slot
abbrev pub no_lists : FamilyView
no_lists = record { slots = 0; lists = []; room = 0 }

-- the family but for its room
abbrev pub but_room : FamilyView → FamilyView
but_room v = record v { room = 0 }

-- a family of the arena
abbrev pub family_at : List FamilyView → ℕ → FamilyView
family_at families f = slice_index_or families f no_lists

-- the family has the slots below a number, and memory for so many more, which can go on the list
pub record CanAddSlots (first count to : ℕ) (v : FamilyView) : Type 0 where
  pub slots : v.slots ≡ first
  pub room : count ≤ v.room
  pub list : to < length v.lists

-- so many slots, from a number on, are put at the end of the list, within the room that was there
pub record AddsSlots (first count to : ℕ) (old new : FamilyView) : Type 0 where
  pub slots : new.slots ≡ first + count
  pub lists : new.lists ≡ put_last (range_with_len first count) to old.lists
  pub room : new.room + count ≡ old.room
