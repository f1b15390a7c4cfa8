-- Chains by cache name and by request context that no group has.
use Rattle.std.specs.Prelude.{◌≡◌, ◌≢◌, ℕ, ◌+◌, ◌<◌, ◌≤◌, List, [], length, Some, slice_get, slice_set}
use Rattle.bh_slot_arena.specs.Slots.{lists_in, slots_on}
use Rattle.bh_cache.specs.declared.lists.GroupLists.{GroupLists}
use Rattle.bh_cache.specs.Chains.{unchained}
use Rattle.bh_cache.specs.Slots.{Slots}
use Rattle.bh_tickets.specs.declared.group_slots.GroupSlots.{GroupSlots}
use Rattle.bh_tickets.specs.declared.names.NameLists.{NameLists}
use Rattle.bh_tickets.specs.GroupSlots.{no_slot_taken}

-- the chains of a group
abbrev pub names_of : GroupLists → NameLists
names_of g = record { names = g.names; names_end = g.names_end; contexts = g.contexts; contexts_end = g.contexts_end }

-- the lists of a group, with these chains in the place of its own
abbrev pub with_names : NameLists → GroupLists → GroupLists
with_names n g = record g { names = n.names; names_end = n.names_end; contexts = n.contexts; contexts_end = n.contexts_end }

-- no number is both from the first to before the end of the one and of the other
abbrev pub AreApart : ℕ → ℕ → ℕ → ℕ → Type 0
AreApart first end from to = (l : ℕ) → (first ≤ l) × (l < end) → (from ≤ l) × (l < to) → ⊥

-- they have no list in common, in either family
pub record AreBeside (n m : NameLists) : Type 0 where
  pub names : AreApart n.names n.names_end m.names m.names_end
  pub contexts : AreApart n.contexts n.contexts_end m.contexts m.contexts_end

-- the chains of a family from the first to before the end are there, behind the list that all groups share, and no slot lies
-- on them
pub record AreEmptyOn (family first end : ℕ) (a : Slots) : Type 0 where
  pub behind : unchained < first
  pub some : first < end
  pub there : end ≤ length (lists_in a family)
  pub empty : (l : ℕ) → first ≤ l → l < end → slots_on a family l ≡ []

-- and so those of both families
pub record AreEmpty (a : Slots) (n : NameLists) : Type 0 where
  pub names : AreEmptyOn 1 n.names n.names_end a
  pub contexts : AreEmptyOn 2 n.contexts n.contexts_end a

-- the chains are those of no group, and no two of them have a list in common
pub record AreLeft (a : Slots) (ss : List GroupSlots) (ns : List NameLists) : Type 0 where
  pub each : (i : ℕ) (n : NameLists) → slice_get ns i ≡ Some n → AreEmpty a n
  pub beside : (i j : ℕ) (n : NameLists) (s : GroupSlots) → slice_get ns i ≡ Some n → slice_get ss j ≡ Some s → AreBeside (names_of s.lists) n
  pub apart : (i j : ℕ) (n m : NameLists) → slice_get ns i ≡ Some n → slice_get ns j ≡ Some m → i ≢ j → AreBeside n m

-- they are so many in each family
pub record AreMany (chains : ℕ) (n : NameLists) : Type 0 where
  pub names : n.names_end ≡ n.names + chains
  pub contexts : n.contexts_end ≡ n.contexts + chains

-- those of the number are so many
pub record HasNames (chains number : ℕ) (ns : List NameLists) : Type 0 where
  pub entry : NameLists
  pub here : slice_get ns number ≡ Some entry
  pub many : AreMany chains entry

-- the group at the place, which has no slot now, and the chains of the number are exchanged
pub record IsExchanged (place number : ℕ) (ss : List GroupSlots) (ns : List NameLists) (rs : List GroupSlots) (ms : List NameLists) : Type 0 where
  pub was : GroupSlots
  pub here : slice_get ss place ≡ Some was
  pub entry : NameLists
  pub there : slice_get ns number ≡ Some entry
  pub groups : rs ≡ slice_set ss place (no_slot_taken (with_names entry was.lists) 0 0)
  pub names : ms ≡ slice_set ns number (names_of was.lists)
