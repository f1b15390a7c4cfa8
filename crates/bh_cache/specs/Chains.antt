-- The chains on which a group's cached tickets are found, by their names and by their request contexts.
use Rattle.std.specs.Prelude.{◌≡◌, ◌≢◌, ℕ, ◌+◌, ◌-◌, ◌<◌, ◌≤◌, ◌&&◌, if◌then◌else◌, Bool, true, false, List, length, Option, Some, None, is_some}
use Rattle.bh_base.specs.declared.ticket.Ticket.{Ticket}
use Rattle.bh_slot_arena.specs.Slots.{lists_in, slots_on, with_moved}
use Rattle.bh_cache.specs.declared.lists.GroupLists.{GroupLists}
use Rattle.bh_cache.specs.Places.{place_among, place_of_context}
use Rattle.bh_cache.specs.Slots.{Slots, is_on, is_owned, ticket_at}

-- ---- the lists of a ticket

-- the list of the second and of the third family for all slots without a cached ticket, of whatever group
abbrev pub unchained : ℕ
unchained = 0

-- the chain of a cache name, among those of the group
abbrev pub name_chain : GroupLists → ℕ × List ℕ → ℕ
name_chain g name = g.names + place_among (g.names_end - g.names) name

-- the list of the second family for a ticket that is cached and was given this name, or none
abbrev pub list_of_name : GroupLists → Option (ℕ × List ℕ) → ℕ
list_of_name g None = unchained
list_of_name g (Some name) = name_chain g name

-- the list of the second family for a slot that has this ticket, or none
abbrev pub list_by_name : GroupLists → Option Ticket → ℕ
list_by_name g None = unchained
list_by_name g (Some t) = if t.cached then list_of_name g t.cache else unchained

-- the chain of a request context, among those of the group
abbrev pub context_chain : GroupLists → ℕ → ℕ
context_chain g context = g.contexts + place_of_context (g.contexts_end - g.contexts) context

-- the list of the third family for a ticket that is cached and was given this name, or none
abbrev pub list_of_context : GroupLists → Option (ℕ × List ℕ) → ℕ
list_of_context g None = unchained
list_of_context g (Some name) = context_chain g name.0

-- the list of the third family for a slot that has this ticket, or none
abbrev pub list_by_context : GroupLists → Option Ticket → ℕ
list_by_context g None = unchained
list_by_context g (Some t) = if t.cached then list_of_context g t.cache else unchained

-- ---- the slots of a group on their lists

-- the chains of the second and of the third family are there behind the shared list, and in each there is one
pub record HasChains (a : Slots) (g : GroupLists) : Type 0 where
  pub names_behind : unchained < g.names
  pub names_some : g.names < g.names_end
  pub names_there : g.names_end ≤ length (lists_in a 1)
  pub contexts_behind : unchained < g.contexts
  pub contexts_some : g.contexts < g.contexts_end
  pub contexts_there : g.contexts_end ≤ length (lists_in a 2)

-- each of the group's slots lies on the family's list for what it has, and only the group's slots lie on the group's chains
pub record AreOn (family first end : ℕ) (to : Option Ticket → ℕ) (a : Slots) (g : GroupLists) : Type 0 where
  pub placed : (x : ℕ) → is_owned a g x ≡ true → is_on a family (to (ticket_at a g x)) x ≡ true
  pub owned : (l x : ℕ) → first ≤ l → l < end → is_on a family l x ≡ true → is_owned a g x ≡ true

-- each slot of the group lies where `place` puts it, and a free one where `place_free` does
pub record IsChained (a : Slots) (g : GroupLists) : Type 0 where
  pub lists : HasChains a g
  pub names : AreOn 1 g.names g.names_end (list_by_name g) a g
  pub contexts : AreOn 2 g.contexts g.contexts_end (list_by_context g) a g

-- the family has as many lists as before, all but the group's chains and the shared list are as before, and on the shared
-- one each slot that is not the group's lies just where it did
pub record KeepsLists (family first end : ℕ) (g : GroupLists) (a b : Slots) : Type 0 where
  pub count : length (lists_in b family) ≡ length (lists_in a family)
  pub lists : (l : ℕ) → l ≢ unchained → ((first ≤ l) × (l < end) → ⊥) → slots_on b family l ≡ slots_on a family l
  pub others : (x : ℕ) → is_owned a g x ≡ false → is_on b family unchained x ≡ is_on a family unchained x

-- the group has the slots that it had; the chains of other groups, and what of the slots of others lies on no chain, are as before
pub record IsChainFrame (g : GroupLists) (a b : Slots) : Type 0 where
  pub owned : (x : ℕ) → is_owned b g x ≡ is_owned a g x
  pub names : KeepsLists 1 g.names g.names_end g a b
  pub contexts : KeepsLists 2 g.contexts g.contexts_end g a b

-- ---- a slot is placed

-- the slot, which has this ticket or none, put last on its lists of the second and of the third family
abbrev pub with_placed : GroupLists → ℕ → Option Ticket → Slots → Slots
with_placed g x o a = with_moved 2 x (list_by_context g o) (with_moved 1 x (list_by_name g o) a)

-- a slot that has this ticket, or none, lies on chains by name and by context
abbrev pub is_named : Option Ticket → Bool
is_named None = false
is_named (Some t) = t.cached && is_some t.cache

-- the slot put last on its lists of both families where that is told, and left where it is else
abbrev pub with_placed_where : Bool → GroupLists → ℕ → Option Ticket → Slots → Slots
with_placed_where named g x o a = if named then with_placed g x o a else a
