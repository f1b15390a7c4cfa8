-- Walks along all tickets of a group, which may move the ticket at hand to another list.
use Rattle.std.specs.Prelude.{◌≡◌, ℕ, ◌+◌, ◌≤◌, List, if◌then◌else◌, false, filter, length, map, Option, Some, true}
use Rattle.std.specs.Option.{option_map}
use Rattle.bh_base.specs.declared.ticket.Ticket.{Ticket}
use Rattle.bh_cache.specs.Slots.{Slots, has, ticket_at, tickets_of}
use Rattle.bh_tickets.specs.declared.group_slots.GroupSlots.{GroupSlots}
use Rattle.bh_tickets.specs.declared.states.DueRule.{DueRule}
use Rattle.bh_tickets.specs.Changes.{is_due_by, timed_out_by}
use Rattle.bh_tickets.specs.GroupSlots.{IsGroupChange, KeepsSerials, count_at, if_kept}

-- the tickets in the slots are changed, each by itself, and all else is as it was
pub record IsSwept (f : Option Ticket → Option Ticket) (xs : List ℕ) (a : Slots) (s : GroupSlots) (b : Slots) (r : GroupSlots) : Type 0 where
  pub change : IsGroupChange a s b r
  pub next : r.next ≡ s.next
  pub tickets : (y : ℕ) → ticket_at b s.lists y ≡ (if has y xs then f (ticket_at a s.lists y) else ticket_at a s.lists y)

-- the tickets in the slots have timed out, where they were due
pub record IsTimedFrom (xs : List ℕ) (a : Slots) (s : GroupSlots) (due : DueRule) (n : ℕ) (b : Slots) (r : GroupSlots) : Type 0 where
  pub swept : IsSwept (option_map (timed_out_by due)) xs a s b r
  pub count : n + count_at b s.lists (is_due_by due) ≡ count_at a s.lists (is_due_by due)

-- the later bound is not after the earlier one, nor after the submit of a ticket in the slots that is of the rule's command and not due
pub record IsSinceFrom (xs : List ℕ) (a : Slots) (s : GroupSlots) (due : DueRule) (before after : ℕ) : Type 0 where
  pub earlier : after ≤ before
  pub own : (x : ℕ) (t : Ticket) → has x xs ≡ true → ticket_at a s.lists x ≡ Some t → t.command ≡ due.command → is_due_by due t ≡ false → after ≤ t.submitted

-- the tickets in the slots are gone, where nobody needs them
pub record IsReleasedFrom (xs : List ℕ) (a : Slots) (s : GroupSlots) (b : Slots) (r : GroupSlots) : Type 0 where
  pub swept : IsSwept if_kept xs a s b r
  pub needless : r.needless ≡ s.needless

-- each ticket that is due has timed out, and so many were; other groups are as they were
pub record IsTimedOut (a : Slots) (s : GroupSlots) (due : DueRule) (n : ℕ) (b : Slots) (r : GroupSlots) : Type 0 where
  pub change : IsGroupChange a s b r
  pub next : r.next ≡ s.next
  pub items : tickets_of b s.lists ≡ map (timed_out_by due) (tickets_of a s.lists)
  pub serials : KeepsSerials a s b
  pub count : n ≡ length (filter (is_due_by due) (tickets_of a s.lists))
