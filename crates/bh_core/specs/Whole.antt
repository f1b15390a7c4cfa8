-- What holds of all groups between steps.
use Rattle.std.specs.Prelude.{◌≡◌, ◌≢◌, ◌<◌, ℕ, List, map, slice_get, Some}
use Rattle.bh_core.specs.declared.service.entry.Entry.{Entry}
use Rattle.bh_core.specs.declared.service.entry.Entry.TheVariants as entry
use Rattle.bh_core.specs.declared.service.Core.TheInside.{Inside}
use Rattle.bh_core.specs.GroupView.{GroupView, HasTickets, view_in}
use Rattle.bh_core.specs.CoreView.{CoreView, Life, living, retired, slots_in}
use Rattle.bh_core.specs.Stepping.{IsSteady}
use Rattle.bh_tickets.specs.TicketsView.{TicketsView, slots_of}

-- what callers see of a group
abbrev pub life_in : TicketsView → Entry → Life
life_in ts (entry.Live g) = living (view_in ts g)
life_in ts (entry.Retired r) = retired r.props r.limit

-- and of all groups, by their numbers
abbrev pub lives_in : TicketsView → List Entry → List Life
lives_in ts es = map (life_in ts) es

-- what is kept of a group once it is retired
abbrev pub retired_entry : Entry → Entry
retired_entry (entry.Live g) = entry.Retired (record { props = g.props; limit = g.limit })
retired_entry (entry.Retired r) = entry.Retired r

-- what callers see of a core
abbrev pub groups_view : Inside → CoreView
groups_view c = record { slot_limit = c.tickets.limit; lives = lives_in c.tickets c.groups.items }

-- each group that is not retired has tickets of its own, and the slots are those of these groups
pub record AreGroups (ts : TicketsView) (es : List Entry) : Type 0 where
  pub apart : (i j : ℕ) (g h : GroupView) → slice_get es i ≡ Some (entry.Live g) → slice_get es j ≡ Some (entry.Live h) → i ≢ j → g.place ≢ h.place
  pub tickets : (i : ℕ) (g : GroupView) → slice_get es i ≡ Some (entry.Live g) → HasTickets ts g
  pub some : (i : ℕ) (g : GroupView) → slice_get es i ≡ Some (entry.Live g) → 0 < g.props.slots
  pub steady : (i : ℕ) (g : GroupView) → slice_get es i ≡ Some (entry.Live g) → IsSteady (view_in ts g)
  pub slots : slots_of ts ≡ slots_in (lives_in ts es)

abbrev pub IsWhole : Inside → Type 0
IsWhole c = AreGroups c.tickets c.groups.items
