-- What the fields of a group show, alone and together with its tickets.
use Rattle.std.specs.Prelude.{◌≡◌, ◌≢◌, ◌+◌, ◌<◌, ◌≤◌, ◌^◌, ℕ, List, length, map, slice_get}
use Rattle.std.specs.List.{AllByRecursion}
use Rattle.bh_base.specs.Props.{GroupProps}
use Rattle.bh_base.specs.History.{window_of}
use Rattle.bh_base.specs.Runs.{View}
use Rattle.bh_core.specs.declared.command.Command.{Command}
use Rattle.bh_core.specs.declared.group.Group.TheInside.{Inside}
use Rattle.bh_core.specs.Command.{IsCommandUpTo, circuit_in, new_command, past_in, window_in}
use Rattle.bh_core.specs.Counted.{counted_pasts}
use Rattle.bh_core.specs.Stepping.{IsServed}
use Rattle.bh_tickets.specs.TicketsView.{TicketsView, group_at}

-- what a group has beside its tickets
pub record GroupView : Type 0 where
  -- by which its tickets are known
  pub place : ℕ
  pub props : GroupProps
  pub limit : ℕ
  pub steps : ℕ
  pub latest : ℕ
  -- by their numbers
  pub commands : List Command

-- a new group
abbrev pub new_group : ℕ → GroupProps → ℕ → GroupView
new_group place props limit = record { place = place; props = props; limit = limit; steps = 0; latest = 0; commands = map new_command props.commands }

-- what a group's fields show
abbrev pub group_view : Inside → GroupView
group_view g = record { place = g.place; props = g.props; limit = g.limit; steps = g.steps; latest = g.latest; commands = g.commands.items }

-- what a group shows together with its tickets
abbrev pub view_in : TicketsView → GroupView → View
view_in ts g = record {
  present = record { props = g.props; limit = g.limit; steps = g.steps; latest = g.latest; serial = (group_at ts g.place).next; tickets = (group_at ts g.place).items; circuits = map circuit_in g.commands };
  pasts = map (past_in g.latest) g.commands;
}

-- the events that its tables have
abbrev pub counted_of : GroupView → ℕ
counted_of g = counted_pasts g.latest (map (past_in g.latest) g.commands)

-- what holds of the fields between calls: the properties are in range, each command has a window as its properties say,
-- nothing that is kept is later than the latest moment, and no step is done beyond the limit
pub record IsReady (g : Inside) : Type 0 where
  pub served : IsServed g.props
  pub windows : map window_in g.commands.items ≡ map window_of g.props.commands
  pub commands : AllByRecursion (IsCommandUpTo g.latest) g.commands.items
  pub limit : g.limit ≤ 2 ^ 40
  pub steps : g.steps ≤ g.limit

-- the group's tickets are there, in as many slots as it has, and there were no more tickets than steps
pub record HasTickets (ts : TicketsView) (g : GroupView) : Type 0 where
  pub there : g.place < length ts.groups
  pub room : (group_at ts g.place).room ≡ g.props.slots
  pub few : length (group_at ts g.place).items ≤ g.props.slots
  pub serial : (group_at ts g.place).next ≤ g.steps + 1

-- the tickets of other groups are as they were, and so is what the group's own rest on; what a whole step leaves
pub record LeavesRoom (ts : TicketsView) (g : GroupView) (us : TicketsView) (h : GroupView) : Type 0 where
  pub place : h.place ≡ g.place
  pub slots : h.props.slots ≡ g.props.slots
  pub limit : us.limit ≡ ts.limit
  pub others : (i : ℕ) → i ≢ g.place → slice_get us.groups i ≡ slice_get ts.groups i
  pub count : length us.groups ≡ length ts.groups
  pub room : (group_at us g.place).room ≡ (group_at ts g.place).room
  pub serial : (group_at ts g.place).next ≤ g.steps + 1 → (group_at us g.place).next ≤ h.steps + 1

-- and the properties too: what every operation but a Tune leaves
pub record Leaves (ts : TicketsView) (g : GroupView) (us : TicketsView) (h : GroupView) : Type 0 where
  pub place : h.place ≡ g.place
  pub props : h.props ≡ g.props
  pub limit : us.limit ≡ ts.limit
  pub others : (i : ℕ) → i ≢ g.place → slice_get us.groups i ≡ slice_get ts.groups i
  pub count : length us.groups ≡ length ts.groups
  pub room : (group_at us g.place).room ≡ (group_at ts g.place).room
  pub serial : (group_at ts g.place).next ≤ g.steps + 1 → (group_at us g.place).next ≤ h.steps + 1
