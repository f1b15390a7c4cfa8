-- What is kept of a script while its lines come: each group that is kept has the panel of its name and of the properties with which it began.
use Rattle.std.specs.Prelude.{◌≡◌, ℕ, true, false, List, ◌++◌, length, Option, Some, None, Result, Ok, Err, slice_get}
use Rattle.bh_base.specs.Commands.{command_count}
use Rattle.bh_base.specs.Props.{GroupProps}
use Rattle.bh_base.specs.Runs.{State, view}
use Rattle.bh_lines.specs.declared.port_error.PortError.{PortError}
use Rattle.bh_lines.specs.declared.port_error.PortError.TheVariants.{Read, Write, Line, Memory}
use Rattle.bh_lines.specs.Lines.{Cut, cut, has_line, stops}
use Rattle.bh_port.specs.declared.groups.Entry.{Entry}
use Rattle.bh_port.specs.Course.{Course, state_at}
use Rattle.bh_port.specs.Entries.{entry_at, number_of}
use Rattle.bh_port.specs.GroupsView.{GroupsView}
use Rattle.bh_port.specs.Script.{GroupsShow}
use Rattle.bh_props.specs.SettingsView.{SettingsView}
use Rattle.bh_columns.specs.Columns.{no_column}
use Rattle.bh_columns.specs.Filled.{Stands}
use Rattle.bh_columns.specs.Layouts.{Layout, PanelName, keeps, layout_of}
use Rattle.bh_columns.specs.Named.{KeptRun, NamedFills, run_after}
use Rattle.bh_columns.specs.Spans.{IsFill}
use Rattle.bh_columns.specs.Tracks.{IsFilled, IsWithin}
use Rattle.bh_columns.specs.declared.kept.Kept.{Kept}
use Rattle.bh_columns.specs.declared.lane.KeptLane.{KeptLane}
use Rattle.bh_columns.specs.declared.panel.KeptPanel.{KeptPanel}
use Rattle.bh_columns.specs.declared.selection.Selection.{Selection}

-- the panel is that of the groups of the name which began with the properties of the group of the settings at the place
pub record IsPanelOf (name : List ℕ) (place : ℕ) (panel : KeptPanel) : Type 0 where
  pub group : panel.group ≡ name
  pub like : panel.like ≡ place

-- what is kept has the panels of the layout, in its order, with so many lanes; and so many groups were left out
pub record HasLayout (l : Layout) (kept : Kept) : Type 0 where
  pub count : length kept.panels.items ≡ length l.panels
  pub named : (p : ℕ) (one : PanelName) (panel : KeptPanel) → slice_get l.panels p ≡ Some one → slice_get kept.panels.items p ≡ Some panel → IsPanelOf one.name one.like panel
  pub lanes : kept.lanes ≡ l.lanes
  pub left_out : kept.left_out ≡ l.left_out

-- no panel is
abbrev pub HasNone : List KeptPanel → List ℕ → ℕ → Type 0
HasNone panels name place = (p : ℕ) (panel : KeptPanel) → slice_get panels p ≡ Some panel → IsPanelOf name place panel → ⊥

-- each group that is there has the panel of its name and properties, and there is one of each at most; a group of a name that
-- is selected has one, as long as none was left out for the number of lanes
pub record ArePlaced (sel : Selection) (kept : Kept) (entries : List Entry) : Type 0 where
  pub count : length kept.places.items ≡ length entries
  pub at : (group place : ℕ) (e : Entry) → slice_get kept.places.items group ≡ Some (Some place) → entry_at entries group ≡ Some e
      → (panel : KeptPanel) × (slice_get kept.panels.items place ≡ Some panel) × IsPanelOf e.name e.like panel
  pub placed : (group place : ℕ) (e : Entry) (panel : KeptPanel) → entry_at entries group ≡ Some e → slice_get kept.panels.items place ≡ Some panel → IsPanelOf e.name e.like panel
      → slice_get kept.places.items group ≡ Some (Some place)
  pub apart : (p q : ℕ) (a b : KeptPanel) → slice_get kept.panels.items p ≡ Some a → slice_get kept.panels.items q ≡ Some b → IsPanelOf a.group a.like b → p ≡ q
  pub chosen : (p : ℕ) (panel : KeptPanel) → slice_get kept.panels.items p ≡ Some panel → keeps sel panel.group ≡ true
  pub whole : (group : ℕ) (e : Entry) → entry_at entries group ≡ Some e → keeps sel e.name ≡ true → kept.left_out ≡ 0
      → (place : ℕ) × (slice_get kept.places.items group ≡ Some (Some place))

-- the columns of all lanes, which are so wide, are those of the moments that lie in them
abbrev pub AreNamed : List KeptPanel → ℕ → NamedFills → Type 0
AreNamed panels width fills = (place command : ℕ) (panel : KeptPanel) (lane : KeptLane) → slice_get panels place ≡ Some panel → slice_get panel.lanes.items command ≡ Some lane
    → IsFilled lane.track width (fills panel.group panel.like command)

-- the panel has a lane for each command of the groups of which it is
pub record FitsLike (like : List ℕ × GroupProps) (panel : KeptPanel) : Type 0 where
  pub lanes : length panel.lanes.items ≡ command_count like.1
  pub steps : length panel.steps.items ≡ command_count like.1

-- what is kept is that of the run so far: there are the panels of the groups that came; the columns of each lane are those of
-- all groups of its panel's name and properties, nothing of their moments lies outside the extent, and each panel stands as the
-- group of its name that is there
pub record IsKept (service : SettingsView) (sel : Selection) (kept : Kept) (course : Course) (fills : NamedFills) : Type 0 where
  pub selection : kept.selection ≡ sel
  pub laid_out : HasLayout (layout_of service sel course.entries) kept
  pub placed : ArePlaced sel kept course.entries
  pub fit : (p : ℕ) (panel : KeptPanel) (like : List ℕ × GroupProps) → slice_get kept.panels.items p ≡ Some panel → slice_get service.groups panel.like ≡ Some like → FitsLike like panel
  pub stands : (name : List ℕ) (group place : ℕ) (s : State) (panel : KeptPanel) → number_of course.entries name ≡ Some group → state_at service course group ≡ Some s
      → slice_get kept.places.items group ≡ Some (Some place) → slice_get kept.panels.items place ≡ Some panel → Stands (view s) panel
  pub sound : (name : List ℕ) (like command : ℕ) → IsFill (fills name like command)
  pub filled : AreNamed kept.panels.items kept.grid.width fills
  pub within : (p command : ℕ) (panel : KeptPanel) → slice_get kept.panels.items p ≡ Some panel → IsWithin kept.grid.extent kept.grid.width (fills panel.group panel.like command)
  pub fresh : (name : List ℕ) (like command : ℕ) → keeps sel name ≡ true → kept.left_out ≡ 0 → HasNone kept.panels.items name like → fills name like command ≡ (λ a b. no_column)

-- the groups and what is kept of them are those of the run so far
pub record IsRecorded (service : SettingsView) (sel : Selection) (groups : GroupsView) (kept : Kept) (run : KeptRun) : Type 0 where
  pub shows : GroupsShow service groups run.course
  pub columns : IsKept service sel kept run.course run.fills

-- The lines that `old` begins with were taken, up to `new`, whatever bytes follow.
pub record RecordedUpTo (service : SettingsView) (sel : Selection) (run : KeptRun) (groups : GroupsView) (kept : Kept) (old new : List ℕ) : Type 0 where
  pub later : KeptRun
  pub recorded : IsRecorded service sel groups kept later
  pub run_is : (more : List ℕ) → run_after service sel.from sel.to (cut (old ++ more)) run ≡ run_after service sel.from sel.to (cut (new ++ more)) later
  pub stops_is : (more : List ℕ) → stops (cut (old ++ more)) ≡ stops (cut (new ++ more))

-- Every line that had ended in what was read of `input` was taken: `left` was not read, and `rest` is of a line that had not
-- ended.
pub record IsRecordedRead (input left : List ℕ) (service : SettingsView) (sel : Selection) (run : KeptRun) (groups : GroupsView) (kept : Kept) : Type 0 where
  pub read : List ℕ
  pub rest : List ℕ
  pub input_is : input ≡ read ++ left
  pub taken : RecordedUpTo service sel run groups kept read rest
  pub no_line : has_line rest ≡ false

-- the same of a reader that had these bytes left, if they are known, and has those left now
abbrev pub HasRecorded : Option (List ℕ) → Option (List ℕ) → SettingsView → Selection → KeptRun → GroupsView → Kept → Type 0
HasRecorded None left service sel run groups kept = Unit {0}
HasRecorded (Some input) None service sel run groups kept = ⊥
HasRecorded (Some input) (Some left) service sel run groups kept = IsRecordedRead input left service sel run groups kept

-- what is kept at the end of the lines, or at the first that is refused; of memory that was refused or a reader that failed
-- nothing is said
abbrev pub RecordOutcome : SettingsView → Selection → KeptRun → Cut → GroupsView → Kept → Result (Unit {0}) PortError → Type 0
RecordOutcome service sel run c groups kept (Ok x) = IsRecorded service sel groups kept (run_after service sel.from sel.to c run) × (stops c ≡ false)
RecordOutcome service sel run c groups kept (Err Line) = IsRecorded service sel groups kept (run_after service sel.from sel.to c run) × (stops c ≡ true)
RecordOutcome service sel run c groups kept (Err Memory) = Unit {0}
RecordOutcome service sel run c groups kept (Err Read) = Unit {0}
RecordOutcome service sel run c groups kept (Err Write) = Unit {0}
