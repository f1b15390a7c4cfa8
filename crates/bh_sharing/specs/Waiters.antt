-- Which connections wait for what, and which of them are to look again.
use Rattle.std.specs.Prelude.{ℕ, ◌==◌, Bool, false, ◌&&◌, not, nat_lt, List, take, Option, None, Some, is_some, option_and_then, slice_get, slice_set}
use Rattle.std.specs.Int.{bit_at}
use Rattle.std.specs.List.{list_any}
use Rattle.std.specs.Option.{option_map_or}
use Rattle.bh_base.specs.declared.step.GroupId.{GroupId}
use Rattle.bh_base.specs.Runs.{View}
use Rattle.bh_core.specs.CoreView.{CoreView, view_at}
use Rattle.bh_lender.specs.Settling.{would_wait}
use Rattle.bh_sharing.specs.declared.waiters.Waiter.{Waiter}
use Rattle.bh_turns.specs.Turn.{would_idle}

-- whether the number is one of those that the bits of the value say, of which there are 64
abbrev pub has_number : ℕ → ℕ → Bool
has_number numbers number = nat_lt number 64 && (bit_at numbers number == 1)

-- whether the step that waits in the group would still be answered Pending or Idle: a collect of the ticket, or a start
abbrev pub waits_on : Option View → Option ℕ → Bool
waits_on group (Some serial) = would_wait group serial
waits_on group None = would_idle group

-- whether it need not wait any more
abbrev pub may_go_on : CoreView → Waiter → Bool
may_go_on groups w = not (waits_on (view_at groups w.group.0) w.ticket)

-- whether the connection at a place waits, was not told yet to look again, and need not wait any more
abbrev pub is_ready : CoreView → Option Waiter → Bool
is_ready groups place = option_map_or (λ (w : Waiter). not w.told && may_go_on groups w) place false

-- whether it waits in the group
abbrev pub is_of : GroupId → Option Waiter → Bool
is_of group place = option_map_or (λ (w : Waiter). w.group.0 == group.0) place false

-- whether it waits for a run, and for no ticket
abbrev pub wants_run : Option Waiter → Bool
wants_run place = option_map_or (λ (w : Waiter). not (is_some w.ticket)) place false

-- whether it waits in the group and is ready
abbrev pub is_ready_in : CoreView → GroupId → Option Waiter → Bool
is_ready_in groups group place = is_of group place && is_ready groups place

-- the same, and for a run
abbrev pub is_ready_to_run : CoreView → GroupId → Option Waiter → Bool
is_ready_to_run groups group place = is_ready_in groups group place && wants_run place

-- What stands behind others is told by a step of the group where it is ready there: whoever waits for a ticket, and of those
-- that wait for a run the first. Whoever takes that run makes a step, which tells the next.
abbrev pub is_told_behind : CoreView → GroupId → List (Option Waiter) → Option Waiter → Bool
is_told_behind groups group before place =
    is_ready_in groups group place && not (wants_run place && list_any (is_ready_to_run groups group) before)

-- whether the connection of the number is told by a step of the group
abbrev pub is_told : CoreView → GroupId → List (Option Waiter) → ℕ → Bool
is_told groups group places number = option_map_or (is_told_behind groups group (take number places)) (slice_get places number) false

-- whether it is told where all are told that are ready, whatever their group
abbrev pub is_told_anyhow : CoreView → List (Option Waiter) → ℕ → Bool
is_told_anyhow groups places number = option_map_or (is_ready groups) (slice_get places number) false

-- what the connection of the number waits for, if it does
abbrev pub waiter_at : List (Option Waiter) → ℕ → Option Waiter
waiter_at places number = option_and_then (λ (place : Option Waiter). place) (slice_get places number)

-- whether it sleeps on: it waits, and was not told to look again
abbrev pub sleeps_at : List (Option Waiter) → ℕ → Bool
sleeps_at places number = option_map_or (λ (w : Waiter). not w.told) (waiter_at places number) false

-- where the connection of the number was told to look again, or has looked
abbrev pub with_told : Bool → ℕ → List (Option Waiter) → List (Option Waiter)
with_told told number places =
    option_map_or (λ (w : Waiter). slice_set places number (Some (record w { told = told }))) (waiter_at places number) places
