-- What a group keeps of its tickets beside their slots, and what its calls do.
use Rattle.std.specs.Prelude.{eqb, if◌then◌else◌, ◌≡◌, ℕ, ◌+◌, ◌-◌, ◌<◌, ◌≤◌, ◌^◌, ◌&&◌, ◌||◌, [], ◌∷◌, ◌++◌, filter, map, Bool, nat_le, nat_lt, true, false, length, replicate, slice_get, Option, Some, None, List, count_by, drop, max, reverse}
use Rattle.std.specs.List.{list_any}
use Rattle.bh_base.specs.declared.ticket.Ticket.{Ticket}
use Rattle.bh_base.specs.Tickets.{is_queued, is_kept, is_cached_in}
use Rattle.bh_index_lists.specs.Lists.{without}
use Rattle.bh_tickets.specs.declared.states.DueRule.{DueRule}
use Rattle.bh_tickets.specs.declared.changes.TicketChange.{TicketChange}
use Rattle.bh_tickets.specs.declared.new_ticket.NewTicket.{NewTicket}
use Rattle.bh_tickets.specs.Changes.{IsAllowed, is_due_by, timed_out_by}
use Rattle.bh_tickets.specs.Counts.{AreCounts, all_less, all_more, all_since, counts_of, is_open, no_counts, open_since}
use Rattle.std.specs.Option.{option_map}
use Rattle.bh_cache.specs.declared.lists.GroupLists.{GroupLists}
use Rattle.bh_tickets.specs.declared.group_slots.GroupSlots.{GroupSlots}
use Rattle.bh_tickets.specs.declared.order.TicketOrder.{TicketOrder}
use Rattle.bh_cache.specs.Cache.{uncached_in}
use Rattle.bh_cache.specs.Chains.{IsChainFrame, IsChained}
use Rattle.bh_cache.specs.Notes.{is_noted, nothing}
use Rattle.bh_cache.specs.Listed.{now_is}
use Rattle.bh_slot_arena.specs.Slots.{bounds_of, lists_in, slots_on}
use Rattle.bh_cache.specs.Slots.{Slots, has, is_on, is_owned, ticket_at, tickets_of, list_for, count_below, has_one, has_serial_in, one, serial_in, InOrder, IsArena, IsFrame}

-- the four lists of a group follow on one another
pub record IsNumbered (g : GroupLists) : Type 0 where
  pub queued : g.queued ≡ g.free + 1
  pub running : g.running ≡ g.free + 2
  pub settled : g.settled ≡ g.free + 3

-- the tickets in the slots
pub record IsArranged (a : Slots) (g : GroupLists) (serial : ℕ) : Type 0 where
  pub distinct : (x y : ℕ) (t u : Ticket) → ticket_at a g x ≡ Some t → ticket_at a g y ≡ Some u → t.serial ≡ u.serial → x ≡ y
  pub below : (x : ℕ) (t : Ticket) → ticket_at a g x ≡ Some t → t.serial < serial
  pub placed : (x : ℕ) (t : Ticket) → ticket_at a g x ≡ Some t → is_on a 0 (list_for g t.state) x ≡ true
  pub order : InOrder a.payloads (slots_on a 0 g.queued)

-- how many of the group's tickets pass
abbrev pub count_at : Slots → GroupLists → (Ticket → Bool) → ℕ
count_at a g q = count_below (length a.payloads) (λ x. has_one q (ticket_at a g x))

abbrev pub is_any : Ticket → Bool
is_any t = true

-- a ticket of the slots passes
abbrev pub any_at : (Ticket → Bool) → List Ticket → List ℕ → Bool
any_at q payloads slots = list_any (λ x. has_one q (slice_get payloads x)) slots

-- a ticket of the rule's command may be due: so long may one be queued or running
abbrev pub may_be_due : DueRule → GroupSlots → Bool
may_be_due due s = nat_lt due.command 16 && due.timeout_on && nat_le due.timeout_ms (due.moment - open_since s.commands due.command)

-- what is known of the order of no tickets
abbrev pub no_order : TicketOrder
no_order = record { latest = 0; in_time = true; last_started = 0; in_turn = true }

-- so many slots, none of which has a ticket, with those that are not made yet
abbrev pub no_slot_taken : GroupLists → ℕ → ℕ → GroupSlots
no_slot_taken lists slots unmade = record { lists = lists; slots = record { max = slots; taken = 0 }; unmade = unmade; next = 1; queued = 0; commands = replicate 16 no_counts; needless = nothing; order = no_order }

-- no ticket of the group was submitted after the latest moment, and where they are in time, none before one of an earlier serial
pub record AreInTime (a : Slots) (g : GroupLists) (latest : ℕ) (in_time : Bool) : Type 0 where
  pub before : (x : ℕ) (t : Ticket) → ticket_at a g x ≡ Some t → t.submitted ≤ latest
  pub rising : in_time ≡ true → (x y : ℕ) (t u : Ticket) → ticket_at a g x ≡ Some t → ticket_at a g y ≡ Some u → t.serial ≤ u.serial → t.submitted ≤ u.submitted

-- no running ticket has a greater serial than the last that was started, and where they are in turn, the serials along their list rise
pub record AreInTurn (a : Slots) (g : GroupLists) (last : ℕ) (in_turn : Bool) : Type 0 where
  pub below : (x : ℕ) → is_on a 0 g.running x ≡ true → serial_in (slice_get a.payloads x) ≤ last
  pub order : in_turn ≡ true → InOrder a.payloads (slots_on a 0 g.running)

abbrev pub submitted_in : Option Ticket → ℕ
submitted_in None = 0
submitted_in (Some t) = t.submitted

-- along the list of slots, no ticket was submitted before one that lies ahead of it
pub record IsRising (payloads : List Ticket) (xs : List ℕ) : Type 0 where
  pub rising : (i x y : ℕ) → slice_get xs i ≡ Some x → has y (drop i xs) ≡ true → submitted_in (slice_get payloads x) ≤ submitted_in (slice_get payloads y)

-- what a group keeps fits its tickets in the arena
pub record IsGroupSlots (a : Slots) (s : GroupSlots) : Type 0 where
  pub numbered : IsNumbered s.lists
  pub there : s.lists.settled < length (lists_in a 0)
  pub arranged : IsArranged a s.lists s.next
  pub chained : IsChained a s.lists
  pub slots : count_below (length a.payloads) (is_owned a s.lists) + s.unmade ≡ s.slots.max
  pub few : s.slots.max < 2 ^ 63
  pub taken : s.slots.taken ≡ count_at a s.lists is_any
  pub queued : s.queued ≡ count_at a s.lists is_queued
  pub commands : length s.commands ≡ 16
  pub counts : (command : ℕ) → command < 16 → AreCounts (count_at a s.lists) command (counts_of s.commands command)
  -- each ticket is of a command that is counted
  pub known : (x : ℕ) (t : Ticket) → ticket_at a s.lists x ≡ Some t → t.command < 16
  -- no ticket of a command waits or runs that was submitted before its counts tell
  pub since : (x : ℕ) (t : Ticket) → ticket_at a s.lists x ≡ Some t → is_open t ≡ true → open_since s.commands t.command ≤ t.submitted
  pub times : AreInTime a s.lists s.order.latest s.order.in_time
  pub turns : AreInTurn a s.lists s.order.last_started s.order.in_turn
  -- the slot of a ticket that nobody needs was noted
  pub needed : (x : ℕ) (t : Ticket) → ticket_at a s.lists x ≡ Some t → is_kept t ≡ false → is_noted s.needless x ≡ true

-- one group has changed: what it keeps fits its tickets again, and other groups are as they were
pub record IsGroupChange (a : Slots) (s : GroupSlots) (b : Slots) (r : GroupSlots) : Type 0 where
  pub arena : IsArena b 0
  pub group : IsGroupSlots b r
  pub frame : IsFrame s.lists a b
  pub chains : IsChainFrame s.lists a b
  pub bounds : bounds_of b ≡ bounds_of a
  pub lists : r.lists ≡ s.lists
  pub room : r.slots.max ≡ s.slots.max
  pub unmade : r.unmade ≡ s.unmade

-- the counts without a ticket, and with one
abbrev pub counted_out : Ticket → GroupSlots → GroupSlots
counted_out t s = record s { queued = s.queued - one (is_queued t); commands = all_less t s.commands }

abbrev pub counted_in : Ticket → GroupSlots → GroupSlots
counted_in t s = record s { queued = s.queued + one (is_queued t); commands = all_more t s.commands }

-- a group to which the ticket was submitted, of the next serial
abbrev pub with_submit : Ticket → GroupSlots → GroupSlots
with_submit v s = record s { order = record s.order { latest = max s.order.latest v.submitted; in_time = s.order.in_time && nat_le s.order.latest v.submitted } }

-- a group in which a ticket of the serial begins to run, after others or alone
abbrev pub with_start : ℕ → Bool → GroupSlots → GroupSlots
with_start serial alone s = record s { order = record s.order { last_started = if alone then serial else max s.order.last_started serial; in_turn = alone || (s.order.in_turn && nat_lt s.order.last_started serial) } }

-- a group of whose command tickets may be queued or running since then
abbrev pub with_since : ℕ → ℕ → GroupSlots → GroupSlots
with_since command since s = record s { commands = all_since command since s.commands }

-- the slot has a ticket of this serial, this command, this submit and this cache name, which waits if this one does
pub record CanPut (a : Slots) (s : GroupSlots) (x : ℕ) (v : Ticket) : Type 0 where
  pub was : Ticket
  pub here : ticket_at a s.lists x ≡ Some was
  pub serial : v.serial ≡ was.serial
  pub command : v.command ≡ was.command
  pub submitted : v.submitted ≡ was.submitted
  pub cache : v.cache ≡ was.cache
  pub cached : v.cached ≡ was.cached
  pub waits : is_queued v ≡ true → is_queued was ≡ true

-- the slot has a ticket to which that may happen
pub record CanBe (a : Slots) (s : GroupSlots) (x : ℕ) (change : TicketChange) : Type 0 where
  pub was : Ticket
  pub here : ticket_at a s.lists x ≡ Some was
  pub allowed : IsAllowed change was

-- the slot has the ticket now, all else of the group's tickets is as it was, and so are other groups
pub record IsPut (a : Slots) (s : GroupSlots) (x : ℕ) (v : Ticket) (b : Slots) (r : GroupSlots) : Type 0 where
  pub change : IsGroupChange a s b r
  pub next : r.next ≡ s.next
  pub items : tickets_of b s.lists ≡ map (now_is v) (tickets_of a s.lists)
  pub counts : (q : Ticket → Bool) → count_at b s.lists q + one (has_one q (ticket_at a s.lists x)) ≡ count_at a s.lists q + one (q v)
  pub left : (l : ℕ) → (l ≡ list_for s.lists v.state → ⊥) → slots_on b 0 l ≡ without x (slots_on a 0 l)
  pub here : ticket_at b s.lists x ≡ Some v
  pub others : (y : ℕ) → (y ≡ x → ⊥) → ticket_at b s.lists y ≡ ticket_at a s.lists y

-- a new ticket of a command below 16, where a slot that is made is free
pub record CanAdd (s : GroupSlots) (new : NewTicket) : Type 0 where
  pub room : s.slots.taken + s.unmade < s.slots.max
  pub few : s.next < 2 ^ 63
  pub command : new.request.now.command < 16

-- the ticket is in the last free slot, and all else of the group's tickets is as it was
pub record ComesTo (a : Slots) (s : GroupSlots) (v : Ticket) (b : Slots) : Type 0 where
  pub slot : ℕ
  pub last : slice_get (reverse (slots_on a 0 s.lists.free)) 0 ≡ Some slot
  pub free : ticket_at a s.lists slot ≡ None
  pub here : ticket_at b s.lists slot ≡ Some v
  pub others : (y : ℕ) → (y ≡ slot → ⊥) → ticket_at b s.lists y ≡ ticket_at a s.lists y

-- the ticket is behind the others, and other groups are as they were
pub record IsAdded (a : Slots) (s : GroupSlots) (v : Ticket) (b : Slots) (r : GroupSlots) : Type 0 where
  pub change : IsGroupChange a s b r
  pub next : r.next ≡ s.next + 1
  pub items : tickets_of b s.lists ≡ tickets_of a s.lists ++ v ∷ []
  pub come : ComesTo a s v b

-- a ticket, where somebody needs it
abbrev pub if_kept : Option Ticket → Option Ticket
if_kept None = None
if_kept (Some t) = if is_kept t then Some t else None

-- the ticket in the slot is gone, where nobody needs it; each other list than that of free slots has lost it then
pub record IsReleasedAt (a : Slots) (s : GroupSlots) (x : ℕ) (b : Slots) (r : GroupSlots) : Type 0 where
  pub change : IsGroupChange a s b r
  pub next : r.next ≡ s.next
  pub needless : r.needless ≡ s.needless
  pub tickets : (y : ℕ) → ticket_at b s.lists y ≡ (if eqb y x then if_kept (ticket_at a s.lists y) else ticket_at a s.lists y)
  pub walk : (l : ℕ) → (l ≡ s.lists.free → ⊥) → slots_on b 0 l ≡ (if has_one is_kept (ticket_at a s.lists x) then slots_on a 0 l else without x (slots_on a 0 l))

-- tickets that nobody needs are gone, and other groups are as they were
pub record IsReleased (a : Slots) (s : GroupSlots) (b : Slots) (r : GroupSlots) : Type 0 where
  pub change : IsGroupChange a s b r
  pub next : r.next ≡ s.next
  pub items : tickets_of b s.lists ≡ filter is_kept (tickets_of a s.lists)

-- the ticket in the slot has timed out, where it was due; each other list than that of settled tickets has lost it then
pub record IsTimed (a : Slots) (s : GroupSlots) (x : ℕ) (due : DueRule) (n : ℕ) (b : Slots) (r : GroupSlots) : Type 0 where
  pub change : IsGroupChange a s b r
  pub next : r.next ≡ s.next
  pub tickets : (y : ℕ) → ticket_at b s.lists y ≡ option_map (λ t. if eqb y x then timed_out_by due t else t) (ticket_at a s.lists y)
  pub count : n + count_at b s.lists (is_due_by due) ≡ count_at a s.lists (is_due_by due)
  pub walk : (l : ℕ) → (l ≡ s.lists.settled → ⊥) → slots_on b 0 l ≡ (if has_one (is_due_by due) (ticket_at a s.lists x) then without x (slots_on a 0 l) else slots_on a 0 l)

-- the later bound is not after the earlier one, nor after the submit of the ticket, where that is of the rule's command and not due
pub record IsSinceAt (o : Option Ticket) (due : DueRule) (before after : ℕ) : Type 0 where
  pub earlier : after ≤ before
  pub own : (t : Ticket) → o ≡ Some t → t.command ≡ due.command → is_due_by due t ≡ false → after ≤ t.submitted

-- each of the group's tickets is in the slot in which it was
pub record KeepsSerials (a : Slots) (s : GroupSlots) (b : Slots) : Type 0 where
  pub same : (serial y : ℕ) → has_serial_in serial (ticket_at b s.lists y) ≡ has_serial_in serial (ticket_at a s.lists y)

-- the group's tickets are cached in the context no more
pub record IsUncached (a : Slots) (s : GroupSlots) (context n : ℕ) (b : Slots) (r : GroupSlots) : Type 0 where
  pub change : IsGroupChange a s b r
  pub next : r.next ≡ s.next
  pub items : tickets_of b s.lists ≡ map (uncached_in context) (tickets_of a s.lists)
  pub serials : KeepsSerials a s b
  pub count : n ≡ count_by (is_cached_in context) (tickets_of a s.lists)
