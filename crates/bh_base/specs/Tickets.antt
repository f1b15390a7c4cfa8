-- The tickets of a group: what each is, and which one a serial or a name means.
use Rattle.std.specs.Prelude.{ℕ, Bool, true, false, ◌&&◌, ◌||◌, ◌==◌, nat_lt, nat_eq, List, [], ◌∷◌, Some, None, if◌then◌else◌}
use Rattle.std.specs.Cmp.Lexicographic.{pointwise}
use Rattle.bh_base.specs.declared.ticket.Ticket.{Ticket}
use Rattle.bh_base.specs.declared.ticket.TicketState.{TicketState}
use Rattle.bh_base.specs.declared.ticket.TicketState.TheVariants as ticket

-- whether the ticket waits for a worker of the thread pool
abbrev pub is_queued : Ticket → Bool
is_queued t = elim t.state [ ticket.Queued ↦ true | _ ↦ false ]

-- whether the ticket's run is under way and has not been marked as timed out
abbrev pub is_running : Ticket → Bool
is_running t = elim t.state [ ticket.Running ↦ true | _ ↦ false ]

-- whether a holder runs the ticket's fallback
abbrev pub is_in_fallback : Ticket → Bool
is_in_fallback t = elim t.state [ ticket.InFallback _ ↦ true | _ ↦ false ]

-- whether a holder that collects gets no answer yet: the ticket waits, or its run or its fallback is under way
abbrev pub is_unanswered : Ticket → Bool
is_unanswered t = elim t.state [ ticket.Queued ↦ true | ticket.Running ↦ true | ticket.InFallback _ ↦ true | _ ↦ false ]

-- whether the ticket is still needed: its run has not ended, a holder is to collect, or requests may join
abbrev pub is_kept : Ticket → Bool
is_kept t = t.busy || nat_lt 0 t.holders || t.cached

-- the tickets that a serial means to a step

-- what Finish and Fail mean: the ticket of the serial whose run has not ended, timed out or not
abbrev pub is_busy_at : ℕ → Ticket → Bool
is_busy_at serial t = t.serial == serial && t.busy

-- what Collect means: the ticket of the serial whose answer a holder has still to collect
abbrev pub is_held_at : ℕ → Ticket → Bool
is_held_at serial t = t.serial == serial && nat_lt 0 t.holders

-- what FallbackDone means: the ticket of the serial whose fallback is under way
abbrev pub is_in_fallback_at : ℕ → Ticket → Bool
is_in_fallback_at serial t = t.serial == serial && is_in_fallback t

-- whether the ticket is of the command
abbrev pub is_of : ℕ → Ticket → Bool
is_of command t = t.command == command

-- a ticket of the command that is cached under the context and key
abbrev pub is_cached_as : ℕ → ℕ × List ℕ → Ticket → Bool
is_cached_as command name t = is_of command t && t.cached && elim t.cache [ None ↦ false | Some given ↦ (given.0 == name.0) && pointwise nat_eq given.1 name.1 ]

-- what Close means: each ticket that is cached in the request context, whatever its command and its key
abbrev pub is_cached_in : ℕ → Ticket → Bool
is_cached_in context t = t.cached && elim t.cache [ None ↦ false | Some given ↦ given.0 == context ]

-- the first ticket that passes the test is changed
abbrev pub changed_first : (Ticket → Bool) → (Ticket → Ticket) → List Ticket → List Ticket
changed_first p f [] = []
changed_first p f (t ∷ ts) = if p t then f t ∷ ts else t ∷ changed_first p f ts

-- the ticket in the given state, and as it was otherwise
abbrev pub in_state : TicketState → Ticket → Ticket
in_state s t = record t { state = s }
