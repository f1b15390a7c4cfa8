-- The text that a service writes for its lines.
use Rattle.std.specs.Prelude.{ℕ, List, [], ◌∷◌, ◌++◌, Bool, false, Option, Some, None, option_and_then, Result, Ok, Err, if◌then◌else◌}
use Rattle.bh_base.specs.declared.step.Step.{Step}
use Rattle.bh_base.specs.declared.reply.Reply.{Reply}
use Rattle.bh_base.specs.declared.reply.Reply.TheVariants as reply
use Rattle.bh_base.specs.Runs.{State, step, view}
use Rattle.bh_core.specs.Looks.{is_in_use}
use Rattle.bh_props.specs.SettingsView.{SettingsView}
use Rattle.bh_faults.specs.declared.fault.Fault.{Fault}
use Rattle.bh_replies.specs.declared.told.Told.{Told}
use Rattle.bh_replies.specs.declared.told.Told.TheVariants as told
use Rattle.bh_replies.specs.FaultLine.{fault_line}
use Rattle.bh_lines.specs.Lines.{Cut, line, ended, stopped}
use Rattle.bh_lines.specs.Names.{command_name}
use Rattle.bh_replies.specs.ToldLine.{told_line}
use Rattle.bh_port.specs.declared.act.LineAct.{LineAct}
use Rattle.bh_port.specs.declared.act.LineAct.TheVariants as act
use Rattle.bh_port.specs.declared.groups.Entry.{Entry}
use Rattle.bh_port.specs.Entries.{entry_at, new_entry, without}
use Rattle.bh_port.specs.Course.{Course, line_act, names_in, state_at}

-- the reply of a group that is in this state to a step, if it is there
abbrev pub reply_of : Step → Option State → Reply
reply_of x None = reply.NoGroup
reply_of x (Some s) = (step s x.op x.now).reply

-- the reply to a step after a run so far: its group's, which depends on the group's properties and its own steps alone
unfoldable pub reply_to : SettingsView → Course → Step → Reply
reply_to service course x = reply_of x (state_at service course x.group.0)

-- the name of the further command whose run a reply of the group assigns, if it does
abbrev pub told_name : SettingsView → List Entry → ℕ → Reply → Option (List ℕ)
told_name service entries group (reply.Assigned serial command arg) = option_and_then (λ e. command_name (names_in service) e.like command) (entry_at entries group)
told_name service entries group _ = None

-- what a reply of the group is told with
abbrev pub told_reply : SettingsView → List Entry → ℕ → Reply → Told
told_reply service entries group r = told.Reply r (told_name service entries group r)

-- a group that is in this state is in use
abbrev pub is_held : Option State → Bool
is_held None = false
is_held (Some s) = is_in_use (view s)

-- whether the group of the number is in use
unfoldable pub held_at : SettingsView → Course → ℕ → Bool
held_at service course group = is_held (state_at service course group)

-- what is told of an act after a run so far
abbrev pub told_by : SettingsView → Course → LineAct → Told
told_by service course (act.Step x) = told_reply service course.entries x.group.0 (reply_to service course x)
told_by service course (act.Register name place) = told.Registered name
told_by service course (act.Retire group) = if held_at service course group.0 then told.Held else told.Retired

-- the run with the act
abbrev pub with_act : SettingsView → Course → LineAct → Course
with_act service course (act.Step x) = record course { steps = course.steps ++ x ∷ [] }
with_act service course (act.Register name place) = record course { entries = course.entries ++ new_entry name place ∷ [] }
with_act service course (act.Retire group) = if held_at service course group.0 then course else record course { entries = without group.0 course.entries }

-- the line that answers what a line asks for: of what is told of the act, or of the fault
abbrev pub answer_to : SettingsView → Course → Result LineAct Fault → List ℕ
answer_to service course (Ok a) = told_line (told_by service course a)
answer_to service course (Err fault) = fault_line fault

-- the run up to and with a line: a faulty line is no act
abbrev pub course_with : SettingsView → Course → Result LineAct Fault → Course
course_with service course (Ok a) = with_act service course a
course_with service course (Err fault) = course

-- what is written for all lines that follow a run so far, up to a line that is too long or not UTF-8
unfoldable pub text : SettingsView → Course → Cut → List ℕ
text service course (line bytes rest) =
    let said = line_act service course.entries bytes in answer_to service course said ++ text service (course_with service course said) rest
text service course ended = []
text service course stopped = []
