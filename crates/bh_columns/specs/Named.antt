-- What is kept of all moments of a script, by the names of its groups.
use Rattle.std.specs.Prelude.{ℕ, false, Bool, ◌&&◌, ◌==◌, List, Option, Some, None, Result, Ok, Err, if◌then◌else◌}
use Rattle.std.specs.Str.{bytes_eq}
use Rattle.bh_base.specs.Runs.{State, view}
use Rattle.bh_base.specs.declared.step.Step.{Step}
use Rattle.bh_faults.specs.declared.fault.Fault.{Fault}
use Rattle.bh_lines.specs.Lines.{Cut, line, ended, stopped}
use Rattle.bh_port.specs.declared.act.LineAct.{LineAct}
use Rattle.bh_port.specs.declared.act.LineAct.TheVariants as act
use Rattle.bh_port.specs.declared.groups.Entry.{Entry}
use Rattle.bh_port.specs.Course.{Course, line_act, new_course, state_at}
use Rattle.bh_port.specs.Entries.{entry_at}
use Rattle.bh_port.specs.Text.{course_with}
use Rattle.bh_props.specs.SettingsView.{SettingsView}
use Rattle.bh_columns.specs.Columns.{no_column}
use Rattle.bh_columns.specs.Spans.{Fill}
use Rattle.bh_columns.specs.Steps.{filled_with}

-- what is kept of the command of a number of the groups that have a name, and began with the properties of the group of the
-- settings at a place
abbrev pub NamedFills : Type 0
NamedFills = List ℕ → ℕ → ℕ → Fill

-- nothing of any
abbrev pub no_fills : NamedFills
no_fills name like command a b = no_column

-- whether a group that is there has the name, and began with the properties of the group of the settings at the place
abbrev pub is_of : Option Entry → List ℕ → ℕ → Bool
is_of None name like = false
is_of (Some e) name like = bytes_eq e.name name && e.like == like

-- with a step of a group that is in this state: it is of the commands of the group's own name and properties alone
abbrev pub fills_in : ℕ → ℕ → Option Entry → Option State → Step → NamedFills → NamedFills
fills_in from to e None x fs name like command = fs name like command
fills_in from to e (Some s) x fs name like command =
    if is_of e name like then filled_with from to (view s) x.op x.now command (fs name like command) else fs name like command

-- with an act: a group that comes or goes adds nothing
abbrev pub fills_done : SettingsView → ℕ → ℕ → Course → LineAct → NamedFills → NamedFills
fills_done service from to course (act.Step x) fs = fills_in from to (entry_at course.entries x.group.0) (state_at service course x.group.0) x fs
fills_done service from to course (act.Register name like) fs = fs
fills_done service from to course (act.Retire number) fs = fs

-- with what a line asks for: one at fault does nothing
abbrev pub fills_said : SettingsView → ℕ → ℕ → Course → Result LineAct Fault → NamedFills → NamedFills
fills_said service from to course (Ok a) fs = fills_done service from to course a fs
fills_said service from to course (Err fault) fs = fs

-- a run so far, and what is kept of its moments
pub record KeptRun : Type 0 where
  pub course : Course
  pub fills : NamedFills

-- a run that begins
abbrev pub run_begun : SettingsView → KeptRun
run_begun service = record { course = new_course service; fills = no_fills }

-- a run with what was said
abbrev pub run_said : SettingsView → ℕ → ℕ → Result LineAct Fault → KeptRun → KeptRun
run_said service from to said run = record { course = course_with service run.course said; fills = fills_said service from to run.course said run.fills }

-- a run with one line more
abbrev pub run_with : SettingsView → ℕ → ℕ → List ℕ → KeptRun → KeptRun
run_with service from to bytes run = run_said service from to (line_act service run.course.entries bytes) run

-- a run with all lines that follow, up to one that is too long or not UTF-8
unfoldable pub run_after : SettingsView → ℕ → ℕ → Cut → KeptRun → KeptRun
run_after service from to (line bytes rest) run = run_after service from to rest (run_with service from to bytes run)
run_after service from to ended run = run
run_after service from to stopped run = run
