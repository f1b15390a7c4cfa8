-- What the lines of a script did to the commands of its groups.
use Rattle.std.specs.Prelude.{ℕ, ◌==◌, Result, Ok, Err, if◌then◌else◌}
use Rattle.bh_faults.specs.declared.fault.Fault.{Fault}
use Rattle.bh_lines.specs.Lines.{Cut, line, ended, stopped}
use Rattle.bh_port.specs.declared.act.LineAct.{LineAct}
use Rattle.bh_port.specs.declared.act.LineAct.TheVariants as act
use Rattle.bh_port.specs.Course.{Course, line_act, state_at}
use Rattle.bh_port.specs.Text.{course_with}
use Rattle.bh_props.specs.SettingsView.{SettingsView}
use Rattle.bh_look.specs.declared.tally.Tally.{Tally}
use Rattle.bh_look.specs.Steps.{tally_in}

-- the run after all lines that follow a run so far, up to a line that is too long or not UTF-8
unfoldable pub course_after : SettingsView → Course → Cut → Course
course_after service course (line bytes rest) = course_after service (course_with service course (line_act service course.entries bytes)) rest
course_after service course ended = course
course_after service course stopped = course

-- the tally of a group's command with what an act did: only a step of the group counts
abbrev pub tally_done : SettingsView → Course → LineAct → ℕ → ℕ → Tally → Tally
tally_done service course (act.Step x) group command t =
    if x.group.0 == group then tally_in (state_at service course group) x command t else t
tally_done service course (act.Register name like) group command t = t
tally_done service course (act.Retire number) group command t = t

-- the same of a line, of which one at fault does nothing
abbrev pub tally_said : SettingsView → Course → Result LineAct Fault → ℕ → ℕ → Tally → Tally
tally_said service course (Ok a) group command t = tally_done service course a group command t
tally_said service course (Err fault) group command t = t

-- the tally of a group's command with what all lines did that follow a run so far, up to a line that is too long or not UTF-8
unfoldable pub tally_of : SettingsView → Course → Cut → ℕ → ℕ → Tally → Tally
tally_of service course (line bytes rest) group command t =
    let said = line_act service course.entries bytes in
    tally_of service (course_with service course said) rest group command (tally_said service course said group command t)
tally_of service course ended group command t = t
tally_of service course stopped group command t = t
