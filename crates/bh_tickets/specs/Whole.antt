-- The tickets of all groups, by the number of the group.
use Rattle.std.specs.Prelude.{◌≡◌, ◌≢◌, ℕ, ◌+◌, ◌==◌, ◌&&◌, Bool, true, false, find, zero, suc, List, [], ◌∷◌, map, length, Option, Some, None, slice_get, sum_by}
use Rattle.bh_base.specs.declared.ticket.Ticket.{Ticket}
use Rattle.bh_base.specs.Tickets.{changed_first}
use Rattle.bh_tickets.specs.declared.group_slots.GroupSlots.{GroupSlots}
use Rattle.bh_cache.specs.Slots.{Slots, ticket_at, tickets_of, IsArena, IsApart}
use Rattle.bh_tickets.specs.GroupSlots.{IsGroupSlots, no_slot_taken}
use Rattle.bh_tickets.specs.declared.names.NameLists.{NameLists}
use Rattle.bh_tickets.specs.Names.{AreLeft}
use Rattle.bh_tickets.specs.declared.changes.TicketChange.{TicketChange}
use Rattle.bh_tickets.specs.Changes.{IsAllowed, changed_by}
use Rattle.bh_tickets.specs.TicketsView.{TicketsView, GroupTickets, ChangesOnly, group_at, in_slot, IsFirstAt}
use Rattle.bh_serials.specs.TableView.{TableView}
use Rattle.bh_tickets.specs.Tables.{HaveTables, IsTable}

-- the places below n that have a ticket, with the tickets
abbrev pub slot_in : ℕ → Option Ticket → List (ℕ × Ticket) → List (ℕ × Ticket)
slot_in n None xs = xs
slot_in n (Some t) xs = (n, t) ∷ xs

abbrev pub slotted : (ℕ → Option Ticket) → ℕ → List (ℕ × Ticket)
slotted at zero = []
slotted at (suc n) = slot_in n (at n) (slotted at n)

-- what contracts see of a group
abbrev pub group_of : Slots → GroupSlots → GroupTickets
group_of a s = record { items = tickets_of a s.lists; room = s.slots.max; next = s.next; slots = slotted (ticket_at a s.lists) (length a.payloads) }

abbrev pub groups_of : Slots → List GroupSlots → List GroupTickets
groups_of a ss = map (group_of a) ss

-- what contracts see of all groups
abbrev pub view_of : Slots → List GroupSlots → TicketsView
view_of a ss = record { limit = a.limit; groups = groups_of a ss }

-- each group's part is as it should be, and no two groups have a list in common
pub record AreGroupSlots (a : Slots) (ss : List GroupSlots) : Type 0 where
  pub arena : IsArena a 0
  pub each : (i : ℕ) (s : GroupSlots) → slice_get ss i ≡ Some s → IsGroupSlots a s
  pub apart : (i j : ℕ) (s r : GroupSlots) → slice_get ss i ≡ Some s → slice_get ss j ≡ Some r → i ≢ j → IsApart s.lists r.lists

-- the room of all groups
abbrev pub rooms : List GroupSlots → ℕ
rooms ss = sum_by (λ (s : GroupSlots). s.slots.max) ss

-- how many slots of all groups are not made yet
abbrev pub unmades : List GroupSlots → ℕ
unmades ss = sum_by (λ (s : GroupSlots). s.unmade) ss

-- the groups, and before them the spare slots as those of one group more
abbrev pub with_spare : Option GroupSlots → List GroupSlots → List GroupSlots
with_spare None ss = ss
with_spare (Some p) ss = p ∷ ss

-- the spare slots and those of all groups: none of the spare ones has a ticket, and all are there once there is a group, or
-- are reserved as they are not made yet; and the chains that no group has
pub record IsWhole (a : Slots) (spare : Option GroupSlots) (ss : List GroupSlots) (ns : List NameLists) : Type 0 where
  pub all : AreGroupSlots a (with_spare spare ss)
  pub slots : length a.payloads + a.reserved ≡ rooms (with_spare spare ss)
  pub reserved : a.reserved ≡ unmades (with_spare spare ss)
  pub free : (p : GroupSlots) → spare ≡ Some p → p ≡ no_slot_taken p.lists p.slots.max p.unmade
  pub first : spare ≡ None → ss ≡ []
  pub names : AreLeft a (with_spare spare ss) ns

-- and the table of each group is so
pub record AreTickets (a : Slots) (spare : Option GroupSlots) (ss : List GroupSlots) (ns : List NameLists) (ts : List TableView) : Type 0 where
  pub whole : IsWhole a spare ss ns
  pub tables : HaveTables (groups_of a ss) ts

-- where the table was the group's, it still is
abbrev pub KeepsTable : Slots → GroupSlots → TableView → Slots → GroupSlots → TableView → Type 0
KeepsTable a s t b r u = IsTable (group_of a s) t → IsTable (group_of b r) u

-- the slot has the ticket of the serial, which is the first that has it and passes a test, where it passes
pub record IsSerialAt (serial : ℕ) (g : GroupTickets) (slot : ℕ) : Type 0 where
  pub ticket : Ticket
  pub here : in_slot g slot ≡ Some ticket
  pub passes : (q : Ticket → Bool) → q ticket ≡ true → find (λ t. t.serial == serial && q t) g.items ≡ Some ticket
  pub fails : (q : Ticket → Bool) → q ticket ≡ false → find (λ t. t.serial == serial && q t) g.items ≡ None

-- the slot has a ticket to which that may happen
pub record CanChange (g : GroupTickets) (slot : ℕ) (change : TicketChange) : Type 0 where
  pub ticket : Ticket
  pub here : in_slot g slot ≡ Some ticket
  pub allowed : IsAllowed change ticket

-- that has happened to the ticket in the slot: for the list this is a change of whatever first ticket the slot has
pub record IsChanged (group slot : ℕ) (change : TicketChange) (old new : TicketsView) : Type 0 where
  pub items : (p : Ticket → Bool) → IsFirstAt p (group_at old group) slot → (group_at new group).items ≡ changed_first p (changed_by change) (group_at old group).items
  pub left : ChangesOnly group old new
