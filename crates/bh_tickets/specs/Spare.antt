-- Slots without tickets, which go from one group to another.
use Rattle.std.specs.Prelude.{◌≡◌, ◌≢◌, ℕ, zero, suc, ◌+◌, ◌<◌, ◌≤◌, Bool, true, false, ◌||◌, List, [], length, Option, Some, slice_get, slice_set}
use Rattle.bh_slot_arena.specs.Slots.{bounds_of, lists_in, slots_on}
use Rattle.bh_cache.specs.declared.lists.GroupLists.{GroupLists}
use Rattle.bh_cache.specs.Chains.{HasChains, unchained}
use Rattle.bh_cache.specs.Slots.{Slots, is_live, is_on, IsApart}
use Rattle.bh_tickets.specs.declared.group_slots.GroupSlots.{GroupSlots}
use Rattle.bh_tickets.specs.declared.names.NameLists.{NameLists}
use Rattle.bh_tickets.specs.GroupSlots.{IsNumbered}
use Rattle.bh_tickets.specs.Names.{AreMany, HasNames, names_of}
use Rattle.bh_tickets.specs.Same.{IsSame}
use Rattle.bh_tickets.specs.TicketsView.{group_at}
use Rattle.bh_tickets.specs.Whole.{IsWhole, groups_of, rooms, view_of}

-- ---- a group without tickets

-- the group's free slots lie on the family's list for slots without a cached ticket, and no others lie on its chains
pub record AreFreeOn (family first end : ℕ) (a : Slots) (g : GroupLists) : Type 0 where
  pub placed : (x : ℕ) → is_on a 0 g.free x ≡ true → is_on a family unchained x ≡ true
  pub owned : (l x : ℕ) → first ≤ l → l < end → is_on a family l x ≡ true → is_on a 0 g.free x ≡ true

-- the group's lists are there, and no slot on them has a ticket
pub record IsVacant (a : Slots) (g : GroupLists) : Type 0 where
  pub numbered : IsNumbered g
  pub there : g.settled < length (lists_in a 0)
  pub chains : HasChains a g
  pub live : (x : ℕ) → is_live a g x ≡ false
  pub names : AreFreeOn 1 g.names g.names_end a g
  pub contexts : AreFreeOn 2 g.contexts g.contexts_end a g

-- how many slots of the group are made and have no ticket
abbrev pub free_slots : Slots → GroupLists → ℕ
free_slots a g = length (slots_on a 0 g.free)

-- ---- slots go from group to group

-- so many slots have gone from the one group to the other, neither of which has a ticket; all else is as it was
pub record IsTaken (count : ℕ) (from to : GroupLists) (a b : Slots) : Type 0 where
  pub giver : IsVacant b from
  pub taker : IsVacant b to
  pub left : free_slots b from + count ≡ free_slots a from
  pub got : free_slots b to ≡ free_slots a to + count
  pub same : (h : GroupLists) → IsApart from h → IsApart to h → IsSame h a b
  pub slots : length b.payloads ≡ length a.payloads
  pub bounds : bounds_of b ≡ bounds_of a

-- all slots of a group that are made have gone to one without tickets; all else is as it was
pub record IsGiven (s : GroupSlots) (to : GroupLists) (a b : Slots) : Type 0 where
  pub giver : IsVacant b s.lists
  pub taker : IsVacant b to
  pub none : free_slots b s.lists ≡ 0
  pub got : free_slots b to + s.unmade ≡ free_slots a to + s.slots.max
  pub same : (h : GroupLists) → IsApart s.lists h → IsApart to h → IsSame h a b
  pub slots : length b.payloads ≡ length a.payloads
  pub bounds : bounds_of b ≡ bounds_of a

-- the slot is on one of so many lists of the family
abbrev pub on_run : Slots → ℕ → ℕ → ℕ → ℕ → Bool
on_run a family first zero x = false
on_run a family first (suc n) x = on_run a family first n x || is_on a family (first + n) x

-- what was on so many lists of the family is on another; all else is as it was
pub record IsGathered (family first count to : ℕ) (a b : Slots) : Type 0 where
  pub payloads : b.payloads ≡ a.payloads
  pub bounds : bounds_of b ≡ bounds_of a
  pub families : length b.families ≡ length a.families
  pub others : (f : ℕ) → f ≢ family → lists_in b f ≡ lists_in a f
  pub lists : length (lists_in b family) ≡ length (lists_in a family)
  pub gone : (l : ℕ) → first ≤ l → l < first + count → slots_on b family l ≡ []
  pub kept : (l : ℕ) → (first ≤ l → l < first + count → ⊥) → l ≢ to → slots_on b family l ≡ slots_on a family l
  pub on : (x : ℕ) → is_on b family to x ≡ (is_on a family to x || on_run a family first count x)

-- ---- what becomes of all groups

-- whatever the groups are, they and the spare slots are as they should be still, and contracts see of the groups what they saw
pub record KeepsGroups (a : Slots) (spare : Option GroupSlots) (b : Slots) (rest : Option GroupSlots) : Type 0 where
  pub whole : (ss : List GroupSlots) (ns : List NameLists) → IsWhole a spare ss ns → IsWhole b rest ss ns
  pub view : (ss : List GroupSlots) (ns : List NameLists) → IsWhole a spare ss ns → view_of b ss ≡ view_of a ss

-- there are groups, and so many slots more are within the limit where no spare slot counts
pub record HasRoomBeside (slots : ℕ) (a : Slots) (spare : Option GroupSlots) : Type 0 where
  pub groups : List GroupSlots
  pub names : List NameLists
  pub whole : IsWhole a spare groups names
  pub within : rooms groups + slots ≤ a.limit

-- the spare slots lie on the lists, and are so many at least
pub record AreSpare (slots : ℕ) (g : GroupLists) (spare : Option GroupSlots) : Type 0 where
  pub part : GroupSlots
  pub is : spare ≡ Some part
  pub lists : part.lists ≡ g
  pub enough : slots ≤ part.slots.max

-- the group at the place has no slot
pub record IsLeft (place : ℕ) (ss : List GroupSlots) : Type 0 where
  pub entry : GroupSlots
  pub here : slice_get ss place ≡ Some entry
  pub empty : entry.slots.max ≡ 0

-- a group without slots is at the place, which no group had, with so many chains of each family; all else is as it was
pub record IsPlaced (chains place : ℕ) (a : Slots) (p : GroupSlots) (ss : List GroupSlots) (b : Slots) (rs : List GroupSlots) (ms : List NameLists) : Type 0 where
  pub entry : GroupSlots
  pub here : slice_get rs place ≡ Some entry
  pub empty : entry.slots.max ≡ 0
  pub many : AreMany chains (names_of entry.lists)
  pub whole : IsWhole b (Some p) rs ms
  pub vacant : (group_at (view_of a ss) place).room ≡ 0
  pub others : (g : ℕ) → g ≢ place → slice_get (groups_of b rs) g ≡ slice_get (groups_of a ss) g
  pub room : rooms rs ≡ rooms ss
  pub limit : b.limit ≡ a.limit

-- whatever the spare slots are, the place is got
pub record GetsPlace (chains place : ℕ) (a : Slots) (ss : List GroupSlots) (ns : List NameLists) (b : Slots) (rs : List GroupSlots) (ms : List NameLists) : Type 0 where
  pub gets : (p : GroupSlots) → IsWhole a (Some p) ss ns → IsPlaced chains place a p ss b rs ms

-- whatever the spare slots are, the groups are as they should be still, and contracts see of them what they saw
pub record StaysWhole (a : Slots) (ss : List GroupSlots) (ns : List NameLists) (b : Slots) (rs : List GroupSlots) (ms : List NameLists) : Type 0 where
  pub whole : (p : GroupSlots) → IsWhole a (Some p) ss ns → IsWhole b (Some p) rs ms
  pub view : (p : GroupSlots) → IsWhole a (Some p) ss ns → view_of b rs ≡ view_of a ss

-- whatever the spare slots and the groups are, so many chains of each family are there that no group has, and contracts see of
-- the groups what they saw
pub record GetsNames (chains number : ℕ) (a : Slots) (ns : List NameLists) (b : Slots) (ms : List NameLists) : Type 0 where
  pub there : HasNames chains number ms
  pub whole : (p : GroupSlots) (ss : List GroupSlots) → IsWhole a (Some p) ss ns → IsWhole b (Some p) ss ms
  pub view : (p : GroupSlots) (ss : List GroupSlots) → IsWhole a (Some p) ss ns → view_of b ss ≡ view_of a ss

-- ---- a slot for one ticket more

-- the group is one of those that are as they should be
pub record IsAmong (a : Slots) (s : GroupSlots) : Type 0 where
  pub spare : Option GroupSlots
  pub groups : List GroupSlots
  pub names : List NameLists
  pub number : ℕ
  pub whole : IsWhole a spare groups names
  pub here : slice_get groups number ≡ Some s

-- a slot that is made is free, where the group has room for a ticket more; wherever the group is, all groups are as they should
-- be still, and contracts see of them what they saw
pub record HasSlotFree (a : Slots) (s : GroupSlots) (b : Slots) (r : GroupSlots) : Type 0 where
  pub room : s.slots.taken < s.slots.max → r.slots.taken + r.unmade < r.slots.max
  pub else : r ≡ record s { unmade = r.unmade }
  pub whole : (spare : Option GroupSlots) (ss : List GroupSlots) (ns : List NameLists) (i : ℕ) → IsWhole a spare ss ns → slice_get ss i ≡ Some s → IsWhole b spare (slice_set ss i r) ns
  pub view : (spare : Option GroupSlots) (ss : List GroupSlots) (ns : List NameLists) (i : ℕ) → IsWhole a spare ss ns → slice_get ss i ≡ Some s → view_of b (slice_set ss i r) ≡ view_of a ss
