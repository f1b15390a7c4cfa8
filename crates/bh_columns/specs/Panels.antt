-- What is kept of the commands of a group.
use Rattle.std.specs.Prelude.{◌≡◌, ◌+◌, ◌-◌, ◌*◌, ◌/◌, ◌<◌, ◌≤◌, ℕ, ◌==◌, max, min, Bool, true, false, List, Option, Some, length, slice_get}
use Rattle.std.specs.List.{list_any}
use Rattle.bh_base.specs.Commands.{command_count}
use Rattle.bh_base.specs.Machine.{busy_count, circuit_of, queued_count}
use Rattle.bh_base.specs.Runs.{View}
use Rattle.bh_base.specs.declared.circuit.CircuitState.{CircuitState}
use Rattle.bh_base.specs.declared.circuit.CircuitState.TheVariants as state
use Rattle.bh_base.specs.declared.step.Op.{Op}
use Rattle.bh_look.specs.declared.lane.Lane.{Lane}
use Rattle.bh_look.specs.declared.tally.Tally.{Tally}
use Rattle.bh_look.specs.Steps.{tally_with}
use Rattle.bh_look.specs.Tallies.{no_tally}
use Rattle.bh_columns.specs.Spans.{Fill, lies, with_told_within}
use Rattle.bh_columns.specs.Steps.{added_fill, closes, time_fill, told_fill}
use Rattle.bh_columns.specs.Tracks.{HasRoom, IsFilled, IsIn, IsReach, SameColumns, column_at, joined_run, with_stay_in}
use Rattle.bh_columns.specs.declared.lane.KeptLane.{KeptLane}
use Rattle.bh_columns.specs.declared.lane.Touched.{Touched}
use Rattle.bh_columns.specs.declared.lane.Touched.TheVariants as touched
use Rattle.bh_columns.specs.declared.panel.When.{When}
use Rattle.bh_columns.specs.declared.stay.Stay.{Stay}
use Rattle.bh_columns.specs.declared.track.Reach.{Reach}
use Rattle.bh_columns.specs.declared.track.Track.{Track}

-- each of a list became another, to which it stands so
pub record EachAt {X : Type 0} (old new : List X) (R : ℕ → X → X → Type 0) : Type 0 where
  pub count : length new ≡ length old
  pub each : (k : ℕ) (x : X) → slice_get old k ≡ Some x → (y : X) × (slice_get new k ≡ Some y) × R k x y

-- the stay of a command as the last step left it
abbrev pub lane_stay : ℕ → ℕ → KeptLane → Stay
lane_stay since until lane = record { since = since; until = until; circuit = lane.circuit; busy = lane.busy; queued = lane.queued }

-- all is as it was but the columns
pub record SameStanding (old new : KeptLane) : Type 0 where
  pub pooled : new.pooled ≡ old.pooled
  pub circuit : new.circuit ≡ old.circuit
  pub busy : new.busy ≡ old.busy
  pub queued : new.queued ≡ old.queued

-- there is as much room as there was
abbrev pub KeepsRoom : Track → Track → Type 0
KeepsRoom old new = (from to : ℕ) → HasRoom old from to → HasRoom new from to

-- the lane has room, with the same columns
pub record HasMadeRoom (from to : ℕ) (old new : KeptLane) : Type 0 where
  pub standing : SameStanding old new
  pub same : SameColumns old.track new.track
  pub room : from < to → HasRoom new.track from to

-- the lane has added the time from one moment on and before another
pub record HasSpent (r : Reach) (since until : ℕ) (old new : KeptLane) : Type 0 where
  pub standing : SameStanding old new
  pub room : KeepsRoom old.track new.track
  pub columns : IsReach r since until → HasRoom old.track r.first r.end → (index : ℕ) → column_at new.track index ≡ with_stay_in r.width index (lane_stay since until old) (column_at old.track index)

-- the lane has added what a step told at the moment, and whether it closed the circuit
pub record HasNotedAt (place moment : ℕ) (told : Tally) (closed : Bool) (old new : KeptLane) : Type 0 where
  pub standing : SameStanding old new
  pub room : KeepsRoom old.track new.track
  pub columns : (width : ℕ) → 0 < width → place ≡ moment / width → HasRoom old.track place (place + 1) → (index : ℕ) → column_at new.track index ≡ with_told_within (index * width) (index * width + width) moment told closed (column_at old.track index)

-- whether a command runs in the pool
abbrev pub any_pooled : List KeptLane → Bool
any_pooled lanes = list_any (λ lane. lane.pooled) lanes

-- whether the step touched the runs of the command
abbrev pub is_touched : Touched → ℕ → Bool
is_touched touched.None command = false
is_touched (touched.Command number) command = number == command
is_touched touched.All command = true

-- the lane has kept how the command stands, and where its runs were touched how many there are
pub record HasLooked (v : View) (command : ℕ) (t : Touched) (old new : KeptLane) : Type 0 where
  pub track : new.track ≡ old.track
  pub pooled : new.pooled ≡ old.pooled
  pub circuit : new.circuit ≡ (circuit_of command v.present).state
  pub busy : is_touched t command ≡ true → new.busy ≡ busy_count command v.present
  pub queued : is_touched t command ≡ true → new.queued ≡ queued_count command v.present
  pub same_busy : is_touched t command ≡ false → new.busy ≡ old.busy
  pub same_queued : is_touched t command ≡ false → new.queued ≡ old.queued

-- nothing is under way, and the circuit breaker is closed
pub record IsNewLife (old new : KeptLane) : Type 0 where
  pub track : new.track ≡ old.track
  pub pooled : new.pooled ≡ old.pooled
  pub circuit : new.circuit ≡ state.Closed
  pub busy : new.busy ≡ 0
  pub queued : new.queued ≡ 0

-- the columns of the lane are joined ten by ten
pub record IsJoinedLane (old new : KeptLane) : Type 0 where
  pub standing : SameStanding old new
  pub columns : (index : ℕ) → column_at new.track index ≡ joined_run (column_at old.track) (index * 10) 10

-- there is a lane for each command of the group, of which there are 16 at most
pub record FitsLanes (v : View) (lanes : List KeptLane) : Type 0 where
  pub count : length lanes ≡ command_count v.present.props
  pub few : command_count v.present.props ≤ 16

-- there is room for the columns of all moments of a step that are kept
pub record HasRoomFor (width : ℕ) (when : When) (t : Track) : Type 0 where
  pub spent : (r : Reach) → r.width ≡ width → IsReach r (max when.since when.from) (min when.moment when.to) → HasRoom t r.first r.end
  pub told : lies when.from when.to when.moment ≡ true → HasRoom t (when.moment / width) (when.moment / width + 1)

-- the columns of all moments of a step that are kept lie in the extent: that of the first does, and that of the last
abbrev pub IsTaken : Option (ℕ × ℕ) → ℕ → When → Type 0
IsTaken extent width when = max when.since when.from < min (when.moment + 1) when.to → IsIn extent (max when.since when.from / width) × IsIn extent ((min (when.moment + 1) when.to - 1) / width)

-- the lane has added the time that passed before a step
pub record HasAddedTime (width : ℕ) (when : When) (old new : KeptLane) : Type 0 where
  pub standing : SameStanding old new
  pub room : KeepsRoom old.track new.track
  pub filled : (f : Fill) → HasRoomFor width when old.track → IsFilled old.track width f → IsFilled new.track width (time_fill when old.circuit f)

-- the lane has added what a step told, which left the circuit in this state
pub record HasAddedTold (width : ℕ) (when : When) (told : Tally) (after : CircuitState) (old new : KeptLane) : Type 0 where
  pub standing : SameStanding old new
  pub filled : (f : Fill) → HasRoomFor width when old.track → IsFilled old.track width f → IsFilled new.track width (told_fill when told (closes old.circuit after) f)

-- the lane has added what a step did, which left the circuit in this state
pub record HasAdded (width : ℕ) (when : When) (told : Tally) (after : CircuitState) (old new : KeptLane) : Type 0 where
  pub standing : SameStanding old new
  pub filled : (f : Fill) → HasRoomFor width when old.track → IsFilled old.track width f → IsFilled new.track width (added_fill when told old.circuit after f)

-- what the step told of each command
abbrev pub HasTold : View → Op → ℕ → List Lane → Type 0
HasTold v o now steps = (k : ℕ) (step : Lane) → slice_get steps k ≡ Some step → step.tally ≡ tally_with v o now k no_tally
