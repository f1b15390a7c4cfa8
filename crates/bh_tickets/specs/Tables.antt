-- The tables by which the tickets of groups are found by their serials.
use Rattle.std.specs.Prelude.{◌≡◌, ℕ, ◌<◌, ◌≤◌, true, List, length, Some, slice_get}
use Rattle.bh_serials.specs.TableView.{TableView, slot_of}
use Rattle.bh_cache.specs.Slots.{has_serial_in}
use Rattle.bh_tickets.specs.TicketsView.{GroupTickets, in_slot}

-- the table has the serials of the group's tickets, each with its slot and no other, and room for as many tickets as the group
pub record IsTable (g : GroupTickets) (t : TableView) : Type 0 where
  pub found : (serial x : ℕ) → has_serial_in serial (in_slot g x) ≡ true → slot_of t.entries serial ≡ Some x
  pub there : (serial x : ℕ) → slot_of t.entries serial ≡ Some x → has_serial_in serial (in_slot g x) ≡ true
  pub count : length t.entries ≤ length g.items
  pub latest : t.latest < g.next
  pub room : g.room ≤ t.room

-- the table of the group is at the number
pub record HasTable (ts : List TableView) (i : ℕ) (g : GroupTickets) : Type 0 where
  pub table : TableView
  pub here : slice_get ts i ≡ Some table
  pub fits : IsTable g table

-- each group has its table at its number
pub record HaveTables (gs : List GroupTickets) (ts : List TableView) : Type 0 where
  pub each : (i : ℕ) (g : GroupTickets) → slice_get gs i ≡ Some g → HasTable ts i g
