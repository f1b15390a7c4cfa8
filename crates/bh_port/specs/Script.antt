-- What the parts of a script do to the bytes that have come, to the groups, and to what is written.
use Rattle.std.specs.Prelude.{◌≡◌, ◌<◌, ℕ, true, false, List, ◌++◌, length, drop, Option, Some, None, Result, Ok, Err}
use Rattle.std.specs.List.{AllByRecursion}
use Rattle.std.specs.Io.KnownBytes.{Appends}
use Rattle.bh_base.specs.Runs.{State}
use Rattle.bh_core.specs.CoreView.{Shows, view_at}
use Rattle.bh_props.specs.SettingsView.{SettingsView}
use Rattle.bh_lines.specs.declared.port_error.PortError.{PortError}
use Rattle.bh_lines.specs.declared.port_error.PortError.TheVariants.{Read, Write, Line, Memory}
use Rattle.bh_lines.specs.Lines.{Cut, cut, stops, has_line}
use Rattle.bh_streams.specs.Watched.{WritesFront}
use Rattle.bh_faults.specs.declared.fault.Fault.{Fault}
use Rattle.bh_port.specs.declared.act.LineAct.{LineAct}
use Rattle.bh_port.specs.declared.groups.Entry.{Entry}
use Rattle.bh_port.specs.GroupsView.{GroupsView}
use Rattle.bh_port.specs.Course.{Course, line_act, new_course, state_at}
use Rattle.bh_port.specs.Text.{answer_to, course_with, text}

-- the groups are those of the run so far, and each that is there looks as after its own steps; no step was made in a group
-- that was not registered
pub record GroupsShow (service : SettingsView) (groups : GroupsView) (course : Course) : Type 0 where
  pub entries : groups.entries ≡ course.entries
  pub count : length groups.core.lives ≡ length course.entries
  pub shows : (number : ℕ) (s : State) → state_at service course number ≡ Some s → Shows groups.core number s
  pub others : (number : ℕ) → state_at service course number ≡ None → view_at groups.core number ≡ None
  pub known : AllByRecursion (λ x. x.group.0 < length course.entries) course.steps

-- what the line was found to ask for, or its fault: where it asks for something, that is told here
abbrev pub IsSaid : SettingsView → List Entry → List ℕ → LineAct → Result (Unit {0}) Fault → Type 0
IsSaid service entries bytes told (Ok x) = line_act service entries bytes ≡ Ok told
IsSaid service entries bytes told (Err fault) = line_act service entries bytes ≡ Err fault

-- the line that answers the line stands behind what was there, and the groups did what it asks for, if anything
pub record AnswersLine (service : SettingsView) (before : Course) (bytes : List ℕ) (groups : GroupsView) (old new : List ℕ) : Type 0 where
  pub wrote : new ≡ old ++ answer_to service before (line_act service before.entries bytes)
  pub agrees : GroupsShow service groups (course_with service before (line_act service before.entries bytes))

-- The lines that `old` begins with were answered, up to `new`, whatever bytes follow.
pub record ScriptAnswered (w0 w1 : Option (List ℕ)) (service : SettingsView) (before : Course) (groups : GroupsView) (old new : List ℕ) : Type 0 where
  pub out : List ℕ
  pub later : Course
  pub agrees : GroupsShow service groups later
  pub wrote : Appends w0 w1 out
  pub text_is : (more : List ℕ) → text service before (cut (old ++ more)) ≡ out ++ text service later (cut (new ++ more))
  pub stops_is : (more : List ℕ) → stops (cut (old ++ more)) ≡ stops (cut (new ++ more))

-- the lines that the first so many of the bytes are were answered, behind `old`
abbrev pub AnswersFront : SettingsView → GroupsView → List ℕ → GroupsView → List ℕ → List ℕ → ℕ → Type 0
AnswersFront service was old now new bytes taken = (before : Course) → GroupsShow service was before → ScriptAnswered (Some old) (Some new) service before now bytes (drop taken bytes)

-- Every line that had ended in what was read of `input` was answered: `left` was not read, and `kept` is of a line that had
-- not ended.
pub record ScriptAnsweredRead (input left : List ℕ) (w0 w1 : Option (List ℕ)) (service : SettingsView) : Type 0 where
  pub read : List ℕ
  pub kept : List ℕ
  pub groups : GroupsView
  pub input_is : input ≡ read ++ left
  pub answered : ScriptAnswered w0 w1 service (new_course service) groups read kept
  pub no_line : has_line kept ≡ false

-- the same of a reader that had these bytes left, if they are known, and has those left now
abbrev pub ScriptHasAnswered : Option (List ℕ) → Option (List ℕ) → Option (List ℕ) → Option (List ℕ) → SettingsView → Type 0
ScriptHasAnswered None left w0 w1 service = Unit {0}
ScriptHasAnswered (Some input) None w0 w1 service = ⊥
ScriptHasAnswered (Some input) (Some left) w0 w1 service = ScriptAnsweredRead input left w0 w1 service

-- what a run comes to over bytes that are cut so
abbrev pub ScriptOutcome : Option (List ℕ) → Option (List ℕ) → SettingsView → Course → Cut → Result (Unit {0}) PortError → Type 0
ScriptOutcome w0 w1 service before c (Ok x) = Appends w0 w1 (text service before c) × (stops c ≡ false)
ScriptOutcome w0 w1 service before c (Err Line) = Appends w0 w1 (text service before c) × (stops c ≡ true)
ScriptOutcome w0 w1 service before c (Err Memory) = WritesFront w0 w1 (text service before c)
ScriptOutcome w0 w1 service before c (Err Read) = WritesFront w0 w1 (text service before c)
ScriptOutcome w0 w1 service before c (Err Write) = WritesFront w0 w1 (text service before c)

-- want of memory, or a reader that failed
abbrev pub IsMemoryOrRead : PortError → Type 0
IsMemoryOrRead Line = ⊥
IsMemoryOrRead Memory = Unit {0}
IsMemoryOrRead Read = Unit {0}
IsMemoryOrRead Write = ⊥

-- anything but a reader that failed
abbrev pub IsNotRead : PortError → Type 0
IsNotRead Line = Unit {0}
IsNotRead Memory = Unit {0}
IsNotRead Write = Unit {0}
IsNotRead Read = ⊥

-- some of the lines were answered, behind `old`, before memory was refused
abbrev pub StopsShort : SettingsView → GroupsView → List ℕ → List ℕ → List ℕ → Type 0
StopsShort service was old new bytes =
    (before : Course) (more : List ℕ) → GroupsShow service was before → ScriptOutcome (Some old) (Some new) service before (cut (bytes ++ more)) (Err Memory)
