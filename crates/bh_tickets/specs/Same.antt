-- What stays of a group as others change.
use Rattle.std.specs.Prelude.{◌≡◌, ◌≢◌, ℕ, ◌<◌, ◌≤◌, true, length, slice_get}
use Rattle.bh_slot_arena.specs.Slots.{lists_in, slots_on}
use Rattle.bh_cache.specs.declared.lists.GroupLists.{GroupLists}
use Rattle.bh_cache.specs.Chains.{unchained}
use Rattle.bh_cache.specs.Slots.{Slots, is_on, IsOwn}
use Rattle.bh_tickets.specs.declared.names.NameLists.{NameLists}
use Rattle.bh_tickets.specs.Names.{names_of}

-- the chains of a family from the first to before the end are as before
pub record KeepsOwn (family first end : ℕ) (a b : Slots) : Type 0 where
  pub count : length (lists_in a family) ≤ length (lists_in b family)
  pub lists : (l : ℕ) → l ≢ unchained → first ≤ l → l < end → slots_on b family l ≡ slots_on a family l

-- what lies on the chains is as before
pub record KeepsNames (n : NameLists) (a b : Slots) : Type 0 where
  pub names : KeepsOwn 1 n.names n.names_end a b
  pub contexts : KeepsOwn 2 n.contexts n.contexts_end a b

-- on the family's list for slots without a cached ticket the group's slots lie just where they did
abbrev pub KeepsUnchained : ℕ → GroupLists → Slots → Slots → Type 0
KeepsUnchained family g a b = (l x : ℕ) → IsOwn g l → is_on a 0 l x ≡ true → is_on b family unchained x ≡ is_on a family unchained x

-- the lists of the group, and what lies on them, are as before
pub record IsSame (g : GroupLists) (a b : Slots) : Type 0 where
  pub slots : length a.payloads ≤ length b.payloads
  pub count : length (lists_in a 0) ≤ length (lists_in b 0)
  pub lists : (l : ℕ) → IsOwn g l → slots_on b 0 l ≡ slots_on a 0 l
  pub payloads : (l x : ℕ) → IsOwn g l → is_on a 0 l x ≡ true → slice_get b.payloads x ≡ slice_get a.payloads x
  pub chains : KeepsNames (names_of g) a b
  pub by_name : KeepsUnchained 1 g a b
  pub by_context : KeepsUnchained 2 g a b
