-- The lines that answer control lines.
use Rattle.std.specs.Prelude.{◌≡◌, ℕ, List, ◌++◌, Bool, true, false, codes, map, Option, Some, None, Result, Ok, Err}
use Rattle.serde_json.specs.Data.{Data, object, member, no_members, string, array, Items}
use Rattle.serde_json.specs.View.{items_of}
use Rattle.bh_base.specs.declared.props.Tuning.{Tuning}
use Rattle.bh_base.specs.declared.step.GroupId.{GroupId}
use Rattle.bh_base.specs.declared.step.Request.{Request}
use Rattle.bh_base.specs.declared.reply.Answer.{Answer}
use Rattle.bh_base.specs.declared.reply.CallError.{CallError}
use Rattle.bh_base.specs.declared.reply.CallError.TheVariants as call_errors
use Rattle.bh_base.specs.declared.reply.Reply.{Reply}
use Rattle.bh_base.specs.declared.reply.Reply.TheVariants as reply
use Rattle.bh_faults.specs.declared.fault.Fault.{Fault}
use Rattle.bh_in_force.specs.declared.properties.InForce.{InForce}
use Rattle.bh_in_force.specs.PropertiesLine.{properties_line}
use Rattle.bh_lines.specs.Names.{Names}
use Rattle.bh_replies.specs.ReplyLine.{text_member, json_line, reply_line}
use Rattle.bh_replies.specs.FaultLine.{error_data, fault_line}
use Rattle.bh_control.specs.declared.control_line.ControlLine.{ControlLine}
use Rattle.bh_control.specs.declared.control_line.ControlLine.TheVariants as lines
use Rattle.bh_control.specs.ControlLine.{control_line}

-- texts, as the items of an array
abbrev pub texts_data : List (List ℕ) → Items
texts_data texts = items_of (map (λ text. string text) texts)

-- the object of the names of the groups, in their order
abbrev pub groups_data : List (List ℕ) → Data
groups_data names = object (member (codes "groups") (array (texts_data names)) (text_member (codes "reply") (codes "groups") no_members))

-- the line of the names of the groups
unfoldable pub groups_line : List (List ℕ) → List ℕ
groups_line names = json_line (groups_data names)

-- the line of the answer to a call, or of why there is none
unfoldable pub answer_line : Result Answer CallError → List ℕ
answer_line (Ok answer) = reply_line None (reply.Answered answer)
answer_line (Err call_errors.GroupFull) = reply_line None reply.GroupFull
answer_line (Err call_errors.Worn) = reply_line None reply.Worn
answer_line (Err call_errors.PassFull) = json_line (error_data (codes "full"))
answer_line (Err call_errors.Stopped) = json_line (error_data (codes "stopped"))
answer_line (Err call_errors.Taken) = json_line (error_data (codes "taken"))
answer_line (Err call_errors.NoGroup) = json_line (error_data (codes "group"))
answer_line (Err call_errors.NoCommand) = json_line (error_data (codes "command"))

-- the line of what is in force of a command, or of why that is not told: its group is not there
abbrev pub in_force_line : Option InForce → List ℕ
in_force_line (Some properties) = properties_line properties
in_force_line None = reply_line None reply.NoGroup

-- who answers: the names of the groups and commands, and what each call may give for its arguments
pub record Responder : Type 1 where
  pub names : Names
  pub may_show : GroupId → ℕ → Reply → Type 0
  pub may_answer : GroupId → Request → Result Answer CallError → Type 0
  pub may_close : GroupId → ℕ → Reply → Type 0
  pub may_total : GroupId → ℕ → Reply → Type 0
  pub may_tune : GroupId → ℕ → Tuning → Reply → Type 0
  pub may_force : GroupId → ℕ → Option InForce → Type 0

-- one who answers so
abbrev pub responder : Names → (GroupId → ℕ → Reply → Type 0) → (GroupId → Request → Result Answer CallError → Type 0) → (GroupId → ℕ → Reply → Type 0)
    → (GroupId → ℕ → Reply → Type 0) → (GroupId → ℕ → Tuning → Reply → Type 0) → (GroupId → ℕ → Option InForce → Type 0) → Responder
responder names may_show may_answer may_close may_total may_tune may_force =
    record { names = names; may_show = may_show; may_answer = may_answer; may_close = may_close; may_total = may_total; may_tune = may_tune; may_force = may_force }

-- what a line that says this may be answered: a faulty one by the line of its fault, one for the names by the names of the
-- groups, and any other by the line of what the call may give for the group and its command, the request, the context or the
-- change that it says; it assigns no run, so no command is named in it
abbrev pub IsAnswer : Responder → Result ControlLine Fault → List ℕ → Type 0
IsAnswer who (Err fault) out = out ≡ fault_line fault
IsAnswer who (Ok lines.Groups) out = out ≡ groups_line who.names.groups
IsAnswer who (Ok (lines.Metrics group command)) out = (reply : Reply) × who.may_show group command reply × (out ≡ reply_line None reply)
IsAnswer who (Ok (lines.Call group request)) out =
    (answer : Result Answer CallError) × who.may_answer group request answer × (out ≡ answer_line answer)
IsAnswer who (Ok (lines.Close group context)) out = (reply : Reply) × who.may_close group context reply × (out ≡ reply_line None reply)
IsAnswer who (Ok (lines.Totals group command)) out = (reply : Reply) × who.may_total group command reply × (out ≡ reply_line None reply)
IsAnswer who (Ok (lines.Tune group command t)) out = (reply : Reply) × who.may_tune group command t reply × (out ≡ reply_line None reply)
IsAnswer who (Ok (lines.Properties group command)) out = (found : Option InForce) × who.may_force group command found × (out ≡ in_force_line found)

-- what a line may be answered
unfoldable pub Answers : Responder → List ℕ → List ℕ → Type 0
Answers who bytes out = IsAnswer who (control_line who.names bytes) out

-- whether what is asked may wait: a call alone may
abbrev pub may_wait : Result ControlLine Fault → Bool
may_wait (Err fault) = false
may_wait (Ok lines.Groups) = false
may_wait (Ok (lines.Metrics group command)) = false
may_wait (Ok (lines.Call group request)) = true
may_wait (Ok (lines.Close group context)) = false
may_wait (Ok (lines.Totals group command)) = false
may_wait (Ok (lines.Tune group command t)) = false
may_wait (Ok (lines.Properties group command)) = false

-- bytes of which this holds stand behind those before
abbrev pub IsPut : (List ℕ → Type 0) → List ℕ → List ℕ → Type 0
IsPut P before after = (one : List ℕ) × P one × (after ≡ before ++ one)
