-- Where the panel of a group that comes stands, and what a group that comes, steps or goes leaves as it was.
use Rattle.std.specs.Prelude.{◌≡◌, ◌⊎◌, ◌<◌, ℕ, true, All, List, length, Option, Some, None, slice_get}
use Rattle.bh_base.specs.Props.{GroupProps}
use Rattle.bh_port.specs.declared.act.LineAct.{LineAct}
use Rattle.bh_port.specs.declared.act.LineAct.TheVariants as act
use Rattle.bh_port.specs.declared.groups.Entry.{Entry}
use Rattle.bh_port.specs.Entries.{number_of}
use Rattle.bh_props.specs.SettingsView.{SettingsView}
use Rattle.bh_columns.specs.Columns.{no_column}
use Rattle.bh_columns.specs.Filled.{SamePanel}
use Rattle.bh_columns.specs.Layouts.{Layout, keeps, with_group}
use Rattle.bh_columns.specs.Panels.{EachAt, IsNewLife}
use Rattle.bh_columns.specs.Recorded.{FitsLike, HasLayout, HasNone, IsPanelOf}
use Rattle.bh_columns.specs.Tracks.{column_at}
use Rattle.bh_columns.specs.declared.kept.Kept.{Kept}
use Rattle.bh_columns.specs.declared.lane.KeptLane.{KeptLane}
use Rattle.bh_columns.specs.declared.panel.KeptPanel.{KeptPanel}

-- nothing is kept of the command
abbrev pub IsEmptyLane : KeptLane → Type 0
IsEmptyLane lane = (index : ℕ) → column_at lane.track index ≡ no_column

-- nothing is kept of any command of the panel
abbrev pub IsEmptyPanel : KeptPanel → Type 0
IsEmptyPanel panel = All IsEmptyLane panel.lanes.items

-- the panel is new behind others, of which none is of the name and the properties
pub record IsNewPanel (service : SettingsView) (name : List ℕ) (like : ℕ) (old : Kept) (place : ℕ) (panel : KeptPanel) : Type 0 where
  pub last : place ≡ length old.panels.items
  pub named : IsPanelOf name like panel
  pub chosen : keeps old.selection name ≡ true
  pub none_left : old.left_out ≡ 0
  pub none : HasNone old.panels.items name like
  pub fit : (props : List ℕ × GroupProps) → slice_get service.groups like ≡ Some props → FitsLike props panel
  pub empty : IsEmptyPanel panel

-- the place is that of the panel for a group of the name and the properties, which is new where there was none; there is none
-- where the name is not selected, or the group is left out
pub record IsPlaceFor (service : SettingsView) (name : List ℕ) (like : ℕ) (old new : Kept) (place : Option ℕ) : Type 0 where
  pub places : new.places ≡ old.places
  pub selection : new.selection ≡ old.selection
  pub width : new.grid.width ≡ old.grid.width
  pub extent : new.grid.extent ≡ old.grid.extent
  pub left : new.left_out ≡ 0 → old.left_out ≡ 0
  pub laid_out : (l : Layout) → like < length service.groups → HasLayout l old → HasLayout (with_group service old.selection name like l) new
  pub stay : (p : ℕ) (panel : KeptPanel) → slice_get old.panels.items p ≡ Some panel → slice_get new.panels.items p ≡ Some panel
  pub more : (p : ℕ) (panel : KeptPanel) → slice_get new.panels.items p ≡ Some panel
      → (slice_get old.panels.items p ≡ Some panel) ⊎ ((place ≡ Some p) × IsNewPanel service name like old p panel)
  pub found : (p : ℕ) → place ≡ Some p → (panel : KeptPanel) × (slice_get new.panels.items p ≡ Some panel) × IsPanelOf name like panel
  pub none : like < length service.groups → place ≡ None → keeps old.selection name ≡ true → (new.left_out ≡ 0 → ⊥) × HasNone new.panels.items name like

-- the panel begins a life where it stands at the place, and is as it was elsewhere
pub record IsBegunAt (place : Option ℕ) (p : ℕ) (old new : KeptPanel) : Type 0 where
  pub begun : place ≡ Some p → EachAt old.lanes.items new.lanes.items (λ k lane next. IsNewLife lane next)
  pub other : (place ≡ Some p → ⊥) → new ≡ old
  pub tracks : EachAt old.lanes.items new.lanes.items (λ k lane next. next.track ≡ lane.track)
  pub steps : new.steps ≡ old.steps
  pub group : new.group ≡ old.group
  pub like : new.like ≡ old.like

-- a panel behind a step of a group whose panel stands at the place
pub record IsStepped (place p : ℕ) (old new : KeptPanel) : Type 0 where
  pub group : new.group ≡ old.group
  pub like : new.like ≡ old.like
  pub other : (p ≡ place → ⊥) → SamePanel old new

-- all is as it was but for what is told of lives
pub record SameKept (old new : Kept) : Type 0 where
  pub panels : EachAt old.panels.items new.panels.items (λ p panel next. (next.lanes ≡ panel.lanes) × (next.steps ≡ panel.steps) × (next.group ≡ panel.group) × (next.like ≡ panel.like))
  pub places : new.places ≡ old.places
  pub selection : new.selection ≡ old.selection
  pub width : new.grid.width ≡ old.grid.width
  pub extent : new.grid.extent ≡ old.grid.extent
  pub lanes : new.lanes ≡ old.lanes
  pub left_out : new.left_out ≡ old.left_out

-- what a line can ask for: a step and a retirement are of a group that was found by a name
abbrev pub IsAsked : List Entry → LineAct → Type 0
IsAsked entries (act.Step x) = (name : List ℕ) × (number_of entries name ≡ Some x.group.0)
IsAsked entries (act.Register name place) = Unit {0}
IsAsked entries (act.Retire group) = (name : List ℕ) × (number_of entries name ≡ Some group.0)
