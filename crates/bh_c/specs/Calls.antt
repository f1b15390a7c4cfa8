-- What the calls of a service do, by what they come to.
use Rattle.std.specs.Prelude.{◌≡◌, ℕ, ◌<◌, List, length, Some, None, Result, Ok, Err}
use Rattle.bh_base.specs.declared.reply.Reply.{Reply}
use Rattle.bh_base.specs.declared.step.Step.{Step}
use Rattle.bh_core.specs.Step.{IsStep}
use Rattle.bh_faults.specs.declared.fault.Fault.{Fault}
use Rattle.bh_replies.specs.FaultLine.{fault_line}
use Rattle.bh_replies.specs.ToldLine.{told_line}
use Rattle.bh_port.specs.declared.act.LineAct.{LineAct}
use Rattle.bh_port.specs.GroupsView.{GroupsView}
use Rattle.bh_port.specs.Course.{Course, line_act}
use Rattle.bh_port.specs.Script.{GroupsShow}
use Rattle.bh_port.specs.Text.{answer_to, course_with, told_by, with_act}
use Rattle.bh_props.specs.SettingsView.{SettingsView}
use Rattle.bh_c.specs.declared.outcome.Outcome.{Outcome}
use Rattle.bh_c.specs.declared.outcome.Outcome.TheVariants.{Done, NoMemory, NoRoom, BadLine}
use Rattle.bh_c.specs.declared.told.ToldReply.{ToldReply}
use Rattle.bh_c.specs.Buffers.{IsWritten}
use Rattle.bh_c.specs.Lines.{line_text}
use Rattle.bh_c.specs.Told.{shown}

-- the step that is given was made, and its reply told; or none is given, and nothing was done
abbrev pub StepTold : Result Step Outcome → GroupsView → GroupsView → ToldReply → ToldReply → Outcome → Type 0
StepTold (Ok step) was is old new outcome = (outcome ≡ Done) × (is.entries ≡ was.entries) × ((reply : Reply) × IsStep was.core step reply is.core × (new ≡ shown reply old))
StepTold (Err refusal) was is old new outcome = (outcome ≡ refusal) × (is ≡ was) × (new ≡ old)

-- the number of a group or a command was told, or why there is none
abbrev pub NumberTold : Result ℕ Outcome → ℕ → ℕ → Outcome → Type 0
NumberTold (Ok number) old new outcome = (outcome ≡ Done) × (new ≡ number)
NumberTold (Err refusal) old new outcome = (outcome ≡ refusal) × (new ≡ old)

-- nothing was done
pub record IsUndone (was is : GroupsView) (old new : List ℕ) : Type 0 where
  pub groups : is ≡ was
  pub buffer : new ≡ old

-- the line that a script answers with, after a run so far, stands in front of the buffer, and the groups did what the line
-- asks for
pub record IsAnswered (service : SettingsView) (before : Course) (line : List ℕ) (is : GroupsView) (old new : List ℕ) (needed : ℕ) : Type 0 where
  pub answer : IsWritten (answer_to service before (line_act service before.entries line)) old new needed
  pub agrees : GroupsShow service is (course_with service before (line_act service before.entries line))

-- what a line was answered, whatever run came before
abbrev pub LineTold : SettingsView → List ℕ → GroupsView → GroupsView → List ℕ → List ℕ → ℕ → Outcome → Type 0
LineTold service line was is old new needed Done =
    (line_text line ≡ Some line) × ((before : Course) → GroupsShow service was before → IsAnswered service before line is old new needed)
LineTold service line was is old new needed NoMemory = IsUndone was is old new
LineTold service line was is old new needed NoRoom = (length old < 2048) × (needed ≡ 2048) × IsUndone was is old new
LineTold service line was is old new needed BadLine = (line_text line ≡ None) × IsUndone was is old new
LineTold service line was is old new needed _ = ⊥

-- the groups did the act, and the line of what is told stands in front of the buffer, after a run so far
pub record IsActTold (service : SettingsView) (before : Course) (act : LineAct) (is : GroupsView) (old new : List ℕ) (needed : ℕ) : Type 0 where
  pub answer : IsWritten (told_line (told_by service before act)) old new needed
  pub agrees : GroupsShow service is (with_act service before act)

-- the act was done if it could be
abbrev pub ActTold : SettingsView → LineAct → GroupsView → GroupsView → List ℕ → List ℕ → ℕ → Outcome → Type 0
ActTold service act was is old new needed Done = (before : Course) → GroupsShow service was before → IsActTold service before act is old new needed
ActTold service act was is old new needed NoMemory = IsUndone was is old new
ActTold service act was is old new needed _ = ⊥

-- the line of a fault was written if it could be
abbrev pub FaultWritten : Fault → List ℕ → List ℕ → ℕ → Outcome → Type 0
FaultWritten fault old new needed Done = IsWritten (fault_line fault) old new needed
FaultWritten fault old new needed NoMemory = new ≡ old
FaultWritten fault old new needed _ = ⊥

-- the lines stand in front of the buffer, or the buffer is as it was
abbrev pub CheckTold : List ℕ → List ℕ → List ℕ → ℕ → Outcome → Type 0
CheckTold lines old new needed Done = IsWritten lines old new needed
CheckTold lines old new needed NoRoom = (length old < length lines) × (needed ≡ length lines) × (new ≡ old)
CheckTold lines old new needed NoMemory = new ≡ old
CheckTold lines old new needed _ = ⊥
