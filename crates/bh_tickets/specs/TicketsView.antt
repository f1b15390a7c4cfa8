-- What contracts see of the tickets of all groups.
use Rattle.std.specs.Prelude.{◌≡◌, ◌≢◌, ℕ, ◌+◌, ◌^◌, ◌<◌, ◌||◌, Bool, nat_lt, List, [], length, find, sum_by, Option, Some, None, slice_get, slice_index_or, eqb, if◌then◌else◌, ◌∷◌}
use Rattle.bh_base.specs.declared.ticket.Ticket.{Ticket}
use Rattle.bh_tickets.specs.declared.new_ticket.NewTicket.{NewTicket}

-- the tickets of a group
pub record GroupTickets : Type 0 where
  -- by rising serial
  pub items : List Ticket
  -- for how many tickets there is room in all
  pub room : ℕ
  -- the next ticket's serial
  pub next : ℕ
  -- the tickets with their slots
  pub slots : List (ℕ × Ticket)

-- the tickets of all groups, by the numbers of the groups, and how many slots there may be in all
pub record TicketsView : Type 0 where
  pub limit : ℕ
  pub groups : List GroupTickets

-- a group with so many slots and no ticket yet
abbrev pub no_tickets_in : ℕ → GroupTickets
no_tickets_in room = record { items = []; room = room; next = 1; slots = [] }

-- the tickets of the group of the number
abbrev pub group_at : TicketsView → ℕ → GroupTickets
group_at v group = slice_index_or v.groups group (no_tickets_in 0)

-- a run of the ticket has not ended, or someone has still to collect its answer
abbrev pub is_used : Ticket → Bool
is_used t = t.busy || nat_lt 0 t.holders

-- the slots of all groups
abbrev pub slots_of : TicketsView → ℕ
slots_of v = sum_by (λ (g : GroupTickets). g.room) v.groups

-- the ticket of a slot, among tickets with their slots
abbrev pub at_in : List (ℕ × Ticket) → ℕ → Option Ticket
at_in [] x = None
at_in (p ∷ ps) x = if eqb p.0 x then Some p.1 else at_in ps x

-- the ticket in a slot
abbrev pub in_slot : GroupTickets → ℕ → Option Ticket
in_slot g x = at_in g.slots x

-- the slot has a ticket of the group
pub record IsThere (g : GroupTickets) (slot : ℕ) : Type 0 where
  pub ticket : Ticket
  pub here : in_slot g slot ≡ Some ticket

-- the slot has the first ticket that passes
pub record IsFirstAt (p : Ticket → Bool) (g : GroupTickets) (slot : ℕ) : Type 0 where
  pub ticket : Ticket
  pub here : in_slot g slot ≡ Some ticket
  pub first : find p g.items ≡ Some ticket

-- the tickets of other groups are as they were, and so are the group's room and next serial
pub record ChangesOnly (group : ℕ) (old new : TicketsView) : Type 0 where
  pub limit : new.limit ≡ old.limit
  pub others : (g : ℕ) → g ≢ group → slice_get new.groups g ≡ slice_get old.groups g
  pub count : length new.groups ≡ length old.groups
  pub room : (group_at new group).room ≡ (group_at old group).room
  pub next : (group_at new group).next ≡ (group_at old group).next

-- so many slots were taken for a group without tickets at the place, which no group had
pub record HasPlace (place count : ℕ) (old new : TicketsView) : Type 0 where
  pub vacant : (group_at old place).room ≡ 0
  pub here : slice_get new.groups place ≡ Some (no_tickets_in count)
  pub others : (g : ℕ) → g ≢ place → slice_get new.groups g ≡ slice_get old.groups g
  pub limit : new.limit ≡ old.limit
  pub slots : slots_of new ≡ slots_of old + count

-- a new ticket of a command below 16, where a slot is free
pub record CanPush (g : GroupTickets) (new : NewTicket) : Type 0 where
  pub room : length g.items < g.room
  pub few : g.next < 2 ^ 63
  pub command : new.request.now.command < 16
