-- The line of a script that says a step.
use Rattle.std.specs.Prelude.{◌≡◌, ℕ, List, [], codes, Bool, true, Option, None, Some, Ok, slice_get, unwrap_or}
use Rattle.std.specs.Option.{option_map_or}
use Rattle.serde_json.specs.Data.{Data, Members, boolean, member, no_members, number, object, unsigned}
use Rattle.serde_json.specs.Written.{compact_text}
use Rattle.bh_base.specs.declared.step.FallbackEnd.{FallbackEnd}
use Rattle.bh_base.specs.declared.step.FallbackEnd.TheVariants as ends
use Rattle.bh_base.specs.declared.step.Op.{Op}
use Rattle.bh_base.specs.declared.step.Op.TheVariants as op
use Rattle.bh_base.specs.declared.step.Request.{Request}
use Rattle.bh_base.specs.declared.step.Step.{Step}
use Rattle.bh_base.specs.Tunings.{is_within}
use Rattle.bh_lines.specs.Names.{Names, command_name}
use Rattle.bh_lines.specs.ScriptLine.{a_step, line_asked}
use Rattle.bh_lines.specs.StepLine.{Said, if_short, of_command}
use Rattle.bh_replies.specs.ReplyLine.{json_line, number_member, text_member}
use Rattle.bh_tuning.specs.declared.named.Given.{Given}
use Rattle.bh_tuning.specs.declared.named.Given.TheVariants as given
use Rattle.bh_tuning.specs.Named.{name_of, value_of}

-- the name of the command of the number in the group of this name: its own command has the group's
abbrev pub name_of_command : Names → ℕ → List ℕ → ℕ → List ℕ
name_of_command names group own command = unwrap_or (command_name names group command) own

-- the members that every step's line has, behind those whose names come before
abbrev pub moment_and_word : ℕ → List ℕ → Members → Members
moment_and_word now word rest = number_member (codes "now") now (text_member (codes "op") word rest)

-- the object of a submit of the command of this name
abbrev pub submit_data : List ℕ → ℕ → List ℕ → Request → Option (ℕ × List ℕ) → Data
submit_data group now command request None = object (
    text_member (codes "arg") request.arg (text_member (codes "command") command (text_member (codes "group") group (
    moment_and_word now (codes "submit") no_members))))
submit_data group now command request (Some cache) = object (
    text_member (codes "arg") request.arg (text_member (codes "command") command (number_member (codes "context") cache.0 (
    text_member (codes "group") group (text_member (codes "key") cache.1 (moment_and_word now (codes "submit") no_members))))))

-- the object of an operation that is its word alone
abbrev pub word_data : List ℕ → ℕ → List ℕ → Data
word_data group now word = object (text_member (codes "group") group (moment_and_word now word no_members))

-- the object of a run that gave a body
abbrev pub finish_data : List ℕ → ℕ → ℕ → List ℕ → Data
finish_data group now ticket body = object (
    text_member (codes "body") body (text_member (codes "group") group (
    moment_and_word now (codes "finish") (number_member (codes "ticket") ticket no_members))))

-- the object of a run that failed, or whose request was bad
abbrev pub fail_data : List ℕ → ℕ → ℕ → Bool → Data
fail_data group now ticket bad = object (
    member (codes "bad") (boolean bad) (text_member (codes "group") group (
    moment_and_word now (codes "fail") (number_member (codes "ticket") ticket no_members))))

-- the object of a question for an answer
abbrev pub collect_data : List ℕ → ℕ → ℕ → Data
collect_data group now ticket = object (
    text_member (codes "group") group (moment_and_word now (codes "collect") (number_member (codes "ticket") ticket no_members)))

-- the object of a fallback that gave nothing, by the word of its end
abbrev pub no_value_data : List ℕ → ℕ → ℕ → List ℕ → Data
no_value_data group now ticket end = object (
    text_member (codes "end") end (text_member (codes "group") group (
    moment_and_word now (codes "fallback") (number_member (codes "ticket") ticket no_members))))

-- the object of the end of a fallback
abbrev pub fallback_data : List ℕ → ℕ → ℕ → FallbackEnd → Data
fallback_data group now ticket (ends.Success body) = object (
    text_member (codes "body") body (text_member (codes "end") (codes "success") (text_member (codes "group") group (
    moment_and_word now (codes "fallback") (number_member (codes "ticket") ticket no_members)))))
fallback_data group now ticket ends.Failure = no_value_data group now ticket (codes "failure")
fallback_data group now ticket ends.Missing = no_value_data group now ticket (codes "missing")

-- the object of the end of a request context
abbrev pub close_data : List ℕ → ℕ → ℕ → Data
close_data group now context =
    object (number_member (codes "context") context (text_member (codes "group") group (moment_and_word now (codes "close") no_members)))

-- the object of a look at what was counted of the command of this name, by its word
abbrev pub command_data : List ℕ → ℕ → List ℕ → List ℕ → Data
command_data group now command word =
    object (text_member (codes "command") command (text_member (codes "group") group (moment_and_word now word no_members)))

-- a value that a property is given
abbrev pub value_data : Given → Data
value_data (given.Number n) = number (unsigned n)
value_data (given.Truth b) = boolean b

-- the object of a change: the property of this name gets the value, for the command of this name
abbrev pub tune_data : List ℕ → ℕ → List ℕ → List ℕ → Given → Data
tune_data group now command property value = object (
    text_member (codes "command") command (text_member (codes "group") group (
    moment_and_word now (codes "tune") (text_member (codes "property") property (member (codes "value") (value_data value) no_members)))))

-- the object of an operation in the group of this name, its members in the order of their names
abbrev pub op_data : Names → ℕ → List ℕ → ℕ → Op → Data
op_data names at group now (op.Submit request) =
    submit_data group now (name_of_command names at group request.command) request request.cache
op_data names at group now op.Start = word_data group now (codes "start")
op_data names at group now (op.Finish ticket body) = finish_data group now ticket body
op_data names at group now (op.Fail ticket bad) = fail_data group now ticket bad
op_data names at group now op.Expire = word_data group now (codes "expire")
op_data names at group now (op.Collect ticket) = collect_data group now ticket
op_data names at group now (op.FallbackDone ticket end) = fallback_data group now ticket end
op_data names at group now (op.Close context) = close_data group now context
op_data names at group now (op.Read command) = command_data group now (name_of_command names at group command) (codes "read")
op_data names at group now (op.Totals command) = command_data group now (name_of_command names at group command) (codes "totals")
op_data names at group now (op.Tune command t) =
    tune_data group now (name_of_command names at group command) (name_of t) (value_of t)

-- the object of a step of the group of this name
abbrev pub step_data : Names → List ℕ → Step → Data
step_data names group step = op_data names step.group.0 group step.now step.op

-- the line of a step: none where its group has no name
abbrev pub step_line : Names → Step → List ℕ
step_line names step = option_map_or (λ group. json_line (step_data names group step)) (slice_get names.groups step.group.0) []

-- what a line is to say of a step

-- whether a script may say it: no line gives a property a value out of its range
abbrev pub is_sayable : Op → Bool
is_sayable (op.Tune command t) = is_within t
is_sayable _ = true

-- the number of the command that an operation is of, where it is of one
abbrev pub command_of_op : Op → Option ℕ
command_of_op (op.Submit request) = Some request.command
command_of_op (op.Read command) = Some command
command_of_op (op.Totals command) = Some command
command_of_op (op.Tune command t) = Some command
command_of_op _ = None

-- its name
abbrev pub command_said : Names → ℕ → List ℕ → Op → Option (List ℕ)
command_said names at group (op.Submit request) = Some (name_of_command names at group request.command)
command_said names at group (op.Read command) = Some (name_of_command names at group command)
command_said names at group (op.Totals command) = Some (name_of_command names at group command)
command_said names at group (op.Tune command t) = Some (name_of_command names at group command)
command_said names at group _ = None

-- the step, its group and command by their names
abbrev pub said_of : Names → List ℕ → Step → Said
said_of names group step =
    record { group = group; now = step.now; command = command_said names step.group.0 group step.op; op = of_command 0 step.op }

-- A script that reads this text as a line is asked for the step of the group of this name: for its operation at its moment,
-- for the command of its name. No text of it is too long, so that with the command's number it is the operation itself.
abbrev pub SaysStep : Names → Step → List ℕ → Type 0
SaysStep names step group =
    (line_asked (compact_text (step_data names group step)) ≡ Ok (a_step (said_of names group step)))
    × (if_short (unwrap_or (command_of_op step.op) 0) (of_command 0 step.op) ≡ Ok step.op)

-- The line that ends a whole record: a read of the first group, with a member that a script does not look at; none where
-- there is no group.

-- its object
abbrev pub end_data : List ℕ → ℕ → Data
end_data group now = object (member (codes "end") (boolean true) (text_member (codes "group") group (moment_and_word now (codes "read") no_members)))

abbrev pub end_line : Names → ℕ → List ℕ
end_line names now = option_map_or (λ group. json_line (end_data group now)) (slice_get names.groups 0) []

-- a script is asked for the metrics of the group's own command
abbrev pub SaysEnd : ℕ → List ℕ → Type 0
SaysEnd now group =
    line_asked (compact_text (end_data group now)) ≡ Ok (a_step (record { group = group; now = now; command = None; op = op.Read 0 }))
