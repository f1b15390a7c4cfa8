-- What is kept of all groups, all but the usage, by the places of panels and the numbers of commands.
use Rattle.std.specs.Prelude.{◌≡◌, ℕ, ◌==◌, List, Option, Some, length, slice_get, if◌then◌else◌}
use Rattle.bh_base.specs.Commands.{command_count}
use Rattle.bh_base.specs.Machine.{circuit_of}
use Rattle.bh_base.specs.Runs.{View}
use Rattle.bh_base.specs.declared.step.Op.{Op}
use Rattle.bh_columns.specs.Panels.{EachAt, HasRoomFor, IsJoinedLane, SameStanding}
use Rattle.bh_columns.specs.Spans.{Fill, IsFill}
use Rattle.bh_columns.specs.Steps.{filled_with}
use Rattle.bh_columns.specs.Tracks.{IsFilled, IsWithin}
use Rattle.bh_columns.specs.declared.lane.KeptLane.{KeptLane}
use Rattle.bh_columns.specs.declared.panel.KeptPanel.{KeptPanel}
use Rattle.bh_columns.specs.declared.panel.When.{When}

-- what is kept of each command, whatever the moments
abbrev pub Fills : Type 0
Fills = ℕ → ℕ → Fill

-- each is what is kept of moments
abbrev pub AreFills : Fills → Type 0
AreFills fs = (place command : ℕ) → IsFill (fs place command)

-- the columns of all lanes, which are so wide, are those of the moments that lie in them
abbrev pub AreFilled : List KeptPanel → ℕ → Fills → Type 0
AreFilled panels width fs = (place command : ℕ) (panel : KeptPanel) (lane : KeptLane) → slice_get panels place ≡ Some panel → slice_get panel.lanes.items command ≡ Some lane → IsFilled lane.track width (fs place command)

-- nothing is kept of any command outside the extent
abbrev pub AreWithin : Option (ℕ × ℕ) → ℕ → Fills → Type 0
AreWithin extent width fs = (place command : ℕ) → IsWithin extent width (fs place command)

-- the panel is as it was but for its columns
pub record SamePanel (old new : KeptPanel) : Type 0 where
  pub lanes : EachAt old.lanes.items new.lanes.items (λ k lane next. SameStanding lane next)
  pub steps : new.steps ≡ old.steps
  pub group : new.group ≡ old.group
  pub like : new.like ≡ old.like

-- the panel has a lane for each command of the group in this view, with its circuit breaker
pub record Stands (v : View) (panel : KeptPanel) : Type 0 where
  pub count : length panel.lanes.items ≡ command_count v.present.props
  pub steps : length panel.steps.items ≡ command_count v.present.props
  pub circuits : (command : ℕ) (lane : KeptLane) → slice_get panel.lanes.items command ≡ Some lane → lane.circuit ≡ (circuit_of command v.present).state

-- what is kept with a step of a group of which the panel is
abbrev pub fills_with : ℕ → ℕ → ℕ → View → Op → ℕ → Fills → Fills
fills_with from to place v o now fs p command = if p == place then filled_with from to v o now command (fs p command) else fs p command

-- the panel's columns are joined ten by ten
pub record IsJoinedPanel (old new : KeptPanel) : Type 0 where
  pub lanes : EachAt old.lanes.items new.lanes.items (λ k lane next. IsJoinedLane lane next)
  pub steps : new.steps ≡ old.steps
  pub group : new.group ≡ old.group
  pub like : new.like ≡ old.like

-- each lane of the panel has room for what a step did
abbrev pub HasRoomsFor : ℕ → When → KeptPanel → Type 0
HasRoomsFor width when panel = (command : ℕ) (lane : KeptLane) → slice_get panel.lanes.items command ≡ Some lane → HasRoomFor width when lane.track
