-- How many tickets of a command there are of each kind.
use Rattle.std.specs.Prelude.{◌≡◌, ℕ, ◌+◌, ◌-◌, ◌<◌, ◌≤◌, ◌^◌, Bool, ◌&&◌, ◌||◌, List, min, slice_index_or, slice_set, if◌then◌else◌}
use Rattle.bh_base.specs.declared.ticket.Ticket.{Ticket}
use Rattle.bh_base.specs.Tickets.{is_of, is_queued, is_running, is_in_fallback}
use Rattle.bh_cache.specs.Slots.{one}
use Rattle.bh_tickets.specs.declared.counts.CommandCounts.{CommandCounts}

-- the ticket can time out: it waits or runs
abbrev pub is_open : Ticket → Bool
is_open t = is_queued t || is_running t

-- what is counted of a command
abbrev pub busy_of : ℕ → Ticket → Bool
busy_of command t = is_of command t && t.busy

abbrev pub queued_of : ℕ → Ticket → Bool
queued_of command t = is_of command t && is_queued t

abbrev pub in_fallback_of : ℕ → Ticket → Bool
in_fallback_of command t = is_of command t && is_in_fallback t

-- the counts are those of the command, where so many tickets pass a test
pub record AreCounts (count : (Ticket → Bool) → ℕ) (command : ℕ) (n : CommandCounts) : Type 0 where
  pub busy : n.busy ≡ count (busy_of command)
  pub queued : n.queued ≡ count (queued_of command)
  pub in_fallback : n.in_fallback ≡ count (in_fallback_of command)

-- those of a command without tickets
abbrev pub no_counts : CommandCounts
no_counts = record { busy = 0; queued = 0; in_fallback = 0; open_since = 2 ^ 64 - 1 }

-- the ticket is in the counts
pub record IsCounted (t : Ticket) (n : CommandCounts) : Type 0 where
  pub busy : one t.busy ≤ n.busy
  pub queued : one (is_queued t) ≤ n.queued
  pub in_fallback : one (is_in_fallback t) ≤ n.in_fallback

-- the counts have room for the ticket
pub record HasRoomFor (t : Ticket) (n : CommandCounts) : Type 0 where
  pub busy : n.busy + one t.busy < 2 ^ 64
  pub queued : n.queued + one (is_queued t) < 2 ^ 64
  pub in_fallback : n.in_fallback + one (is_in_fallback t) < 2 ^ 64

-- since when tickets may wait or run, with the ticket too
abbrev pub since_with : Ticket → ℕ → ℕ
since_with t since = if is_open t then min since t.submitted else since

-- the counts without a ticket, and with one
abbrev pub one_less : Ticket → CommandCounts → CommandCounts
one_less t n = record { busy = n.busy - one t.busy; queued = n.queued - one (is_queued t); in_fallback = n.in_fallback - one (is_in_fallback t); open_since = n.open_since }

abbrev pub one_more : Ticket → CommandCounts → CommandCounts
one_more t n = record { busy = n.busy + one t.busy; queued = n.queued + one (is_queued t); in_fallback = n.in_fallback + one (is_in_fallback t); open_since = since_with t n.open_since }

-- what is read past the last command
abbrev pub zero_counts : CommandCounts
zero_counts = record { busy = 0; queued = 0; in_fallback = 0; open_since = 0 }

-- the counts of the command of the number
abbrev pub counts_of : List CommandCounts → ℕ → CommandCounts
counts_of cs command = slice_index_or cs command zero_counts

-- the counts of all commands without a ticket, and with one
abbrev pub all_less : Ticket → List CommandCounts → List CommandCounts
all_less t cs = slice_set cs t.command (one_less t (counts_of cs t.command))

abbrev pub all_more : Ticket → List CommandCounts → List CommandCounts
all_more t cs = slice_set cs t.command (one_more t (counts_of cs t.command))

-- no ticket of the command waits or runs that was submitted before
abbrev pub open_since : List CommandCounts → ℕ → ℕ
open_since cs command = (counts_of cs command).open_since

-- the counts of all commands, where tickets of the command wait or run since then
abbrev pub all_since : ℕ → ℕ → List CommandCounts → List CommandCounts
all_since command since cs = slice_set cs command (record (counts_of cs command) { open_since = since })
