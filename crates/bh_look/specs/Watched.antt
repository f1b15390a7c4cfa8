-- What is kept of a script while its lines come.
use Rattle.std.specs.Prelude.{◌≡◌, ℕ, true, false, List, ◌++◌, length, Option, Some, None, Result, Ok, Err, Vec, option_and_then, slice_get}
use Rattle.std.specs.Option.{option_map_or}
use Rattle.std.specs.declared.alloc.Global.{Global}
use Rattle.bh_base.specs.Commands.{command_count}
use Rattle.bh_base.specs.Props.{GroupProps}
use Rattle.bh_lines.specs.declared.port_error.PortError.{PortError}
use Rattle.bh_lines.specs.declared.port_error.PortError.TheVariants.{Read, Write, Line, Memory}
use Rattle.bh_lines.specs.Lines.{Cut, cut, has_line, stops}
use Rattle.bh_port.specs.declared.groups.Entry.{Entry}
use Rattle.bh_port.specs.Course.{Course, line_act}
use Rattle.bh_port.specs.GroupsView.{GroupsView}
use Rattle.bh_port.specs.Script.{GroupsShow}
use Rattle.bh_port.specs.Text.{course_with}
use Rattle.bh_props.specs.SettingsView.{SettingsView}
use Rattle.bh_look.specs.declared.lane.Lane.{Lane}
use Rattle.bh_look.specs.declared.tally.Tally.{Tally}
use Rattle.bh_look.specs.Scripts.{course_after, tally_of, tally_said}
use Rattle.bh_look.specs.Tallies.{no_tally}

-- the lanes of all groups, by the numbers of the groups, and of each by those of its commands
abbrev pub Lanes : Type 0
Lanes = List (Vec Lane Global)

-- the tally that is kept of a group's command: nothing where none is
abbrev pub tally_at : Lanes → ℕ → ℕ → Tally
tally_at lanes group command =
    option_map_or (λ lane. lane.tally) (option_and_then (λ own. slice_get own.items command) (slice_get lanes group)) no_tally

-- each has a lane for each command of the group at its place, and no lane has anything
pub record AreNewLanes (groups : List (List ℕ × GroupProps)) (lanes : Lanes) : Type 0 where
  pub count : length lanes ≡ length groups
  pub fit : (place : ℕ) (like : List ℕ × GroupProps) (own : Vec Lane Global) → slice_get groups place ≡ Some like → slice_get lanes place ≡ Some own → length own.items ≡ command_count like.1
  pub none : (group command : ℕ) → tally_at lanes group command ≡ no_tally

-- how many commands the group of the number has, whether it is there or was retired
abbrev pub commands_at : SettingsView → List Entry → ℕ → ℕ
commands_at service entries group =
    option_map_or (λ like. command_count like.1) (option_and_then (λ e. slice_get service.groups e.like) (slice_get entries group)) 0

-- the groups are those of the run so far, and of each, whether it is there or was retired, a lane is kept for each command
pub record IsWatched (service : SettingsView) (groups : GroupsView) (lanes : Lanes) (course : Course) : Type 0 where
  pub shows : GroupsShow service groups course
  pub count : length lanes ≡ length course.entries
  pub each : (group : ℕ) (own : Vec Lane Global) → slice_get lanes group ≡ Some own → length own.items ≡ commands_at service course.entries group

-- what the line asks for was done, and each tally is that of the line
pub record TakesLine (service : SettingsView) (before : Course) (bytes : List ℕ) (groups : GroupsView) (old new : Lanes) : Type 0 where
  pub watched : IsWatched service groups new (course_with service before (line_act service before.entries bytes))
  pub tallies : (group command : ℕ) → tally_at new group command ≡ tally_said service before (line_act service before.entries bytes) group command (tally_at old group command)

-- The lines that `old` begins with were taken, up to `new`, whatever bytes follow.
pub record TakenUpTo (service : SettingsView) (before : Course) (groups : GroupsView) (l0 l1 : Lanes) (old new : List ℕ) : Type 0 where
  pub later : Course
  pub watched : IsWatched service groups l1 later
  pub course_is : (more : List ℕ) → course_after service before (cut (old ++ more)) ≡ course_after service later (cut (new ++ more))
  pub tallies : (group command : ℕ) (more : List ℕ) → tally_of service before (cut (old ++ more)) group command (tally_at l0 group command)
      ≡ tally_of service later (cut (new ++ more)) group command (tally_at l1 group command)
  pub stops_is : (more : List ℕ) → stops (cut (old ++ more)) ≡ stops (cut (new ++ more))

-- Every line that had ended in what was read of `input` was taken: `left` was not read, and `rest` is of a line that had not
-- ended.
pub record IsWatchedRead (input left : List ℕ) (service : SettingsView) (before : Course) (groups : GroupsView) (l0 l1 : Lanes) : Type 0 where
  pub read : List ℕ
  pub rest : List ℕ
  pub input_is : input ≡ read ++ left
  pub taken : TakenUpTo service before groups l0 l1 read rest
  pub no_line : has_line rest ≡ false

-- the same of a reader that had these bytes left, if they are known, and has those left now
abbrev pub HasWatched : Option (List ℕ) → Option (List ℕ) → SettingsView → Course → GroupsView → Lanes → Lanes → Type 0
HasWatched None left service before groups l0 l1 = Unit {0}
HasWatched (Some input) None service before groups l0 l1 = ⊥
HasWatched (Some input) (Some left) service before groups l0 l1 = IsWatchedRead input left service before groups l0 l1

-- what is kept once all lines of the bytes were taken that are cut so
abbrev pub AllTallies : SettingsView → Course → Cut → Lanes → Lanes → Type 0
AllTallies service before c l0 l1 = (group command : ℕ) → tally_at l1 group command ≡ tally_of service before c group command (tally_at l0 group command)

-- what is kept at the end of the lines, or at the first that is refused; of memory that was refused or a reader that failed
-- nothing is said
abbrev pub WatchOutcome : SettingsView → Course → Cut → Lanes → Lanes → Result (Unit {0}) PortError → Type 0
WatchOutcome service before c l0 l1 (Ok x) = AllTallies service before c l0 l1 × (stops c ≡ false)
WatchOutcome service before c l0 l1 (Err Line) = AllTallies service before c l0 l1 × (stops c ≡ true)
WatchOutcome service before c l0 l1 (Err Memory) = Unit {0}
WatchOutcome service before c l0 l1 (Err Read) = Unit {0}
WatchOutcome service before c l0 l1 (Err Write) = Unit {0}
