-- What a line asks of a service that connections share, or its fault.
use Rattle.std.specs.Prelude.{ℕ, ◌<◌, Bool, true, false, ◌&&◌, is_some, List, codes, Option, Some, None, Result, Ok, Err, if◌then◌else◌}
use Rattle.std.specs.Str.{bytes_eq}
use Rattle.serde_json.specs.Data.{Data}
use Rattle.serde_json.specs.Find.{get}
use Rattle.serde_json.specs.Read.{read}
use Rattle.bh_base.specs.declared.step.GroupId.{GroupId}
use Rattle.bh_base.specs.declared.step.Op.TheVariants as op
use Rattle.bh_faults.specs.declared.fault.Fault.{Fault}
use Rattle.bh_faults.specs.declared.fault.Fault.TheVariants as faults
use Rattle.bh_lines.specs.declared.step_line.OpWord.{OpWord}
use Rattle.bh_lines.specs.declared.step_line.OpWord.TheVariants as op_words
use Rattle.bh_lines.specs.Names.{Names}
use Rattle.bh_lines.specs.StepLine.{◌>>=◌, or_fault, number_at, text_at, truth_at, command_of, command_in, group_number, if_short, op_said}
use Rattle.bh_share.specs.declared.share_line.ShareWord.{ShareWord}
use Rattle.bh_share.specs.declared.share_line.ShareWord.TheVariants as words
use Rattle.bh_share.specs.declared.share_line.ShareLine.{ShareLine}
use Rattle.bh_share.specs.declared.share_line.ShareLine.TheVariants as lines

-- the kind of line of a word: the words of a script's steps, save those for the time and for metrics, and four more
abbrev pub share_word : List ℕ → Option ShareWord
share_word s =
    if bytes_eq s (codes "groups") then Some words.Groups else
    (if bytes_eq s (codes "metrics") then Some words.Metrics else
    (if bytes_eq s (codes "properties") then Some words.Properties else
    (if bytes_eq s (codes "submit") then Some (words.Step op_words.Submit) else
    (if bytes_eq s (codes "start") then Some (words.Step op_words.Start) else
    (if bytes_eq s (codes "finish") then Some (words.Step op_words.Finish) else
    (if bytes_eq s (codes "fail") then Some (words.Step op_words.Fail) else
    (if bytes_eq s (codes "collect") then Some (words.Step op_words.Collect) else
    (if bytes_eq s (codes "fallback") then Some (words.Step op_words.FallbackDone) else
    (if bytes_eq s (codes "close") then Some (words.Step op_words.Close) else
    (if bytes_eq s (codes "totals") then Some (words.Step op_words.Totals) else
    (if bytes_eq s (codes "tune") then Some (words.Step op_words.Tune) else
    (if bytes_eq s (codes "enter") then Some words.Enter else None))))))))))))

-- whether a step of this word may wait for its answer
abbrev pub waits : OpWord → Bool
waits op_words.Start = true
waits op_words.Collect = true
waits _ = false

-- whether it is to wait; of any other step the member is not looked at
abbrev pub wait_said : OpWord → Data → Result Bool Fault
wait_said word d =
    if waits word && is_some (get (codes "wait") d) then or_fault faults.Field (truth_at (codes "wait") d) else Ok false

-- the group of a name, by its place in the list
abbrev pub group_named : Names → List ℕ → Result GroupId Fault
group_named names name = do
  number ← or_fault faults.Group (group_number names.groups name)
  Ok (record { 0 = number })

-- what an object asks of the groups with these names, its kind of line known: first what is missing, then whether there is
-- such a group, then whether it has such a command, then whether the texts are too long
abbrev pub share_line_for : Names → ShareWord → Data → Result ShareLine Fault
share_line_for names words.Groups d = Ok lines.Groups
share_line_for names words.Metrics d = do
  name ← or_fault faults.Field (text_at (codes "group") d)
  said ← command_of (get (codes "command") d)
  group ← group_named names name
  command ← command_in names group.0 said
  Ok (lines.Step group (op.Read command) false)
share_line_for names words.Properties d = do
  name ← or_fault faults.Field (text_at (codes "group") d)
  said ← command_of (get (codes "command") d)
  group ← group_named names name
  command ← command_in names group.0 said
  Ok (lines.Properties group command)
share_line_for names words.Enter d = do
  name ← or_fault faults.Field (text_at (codes "group") d)
  context ← or_fault faults.Field (number_at (codes "context") d)
  group ← group_named names name
  Ok (lines.Enter group context)
share_line_for names (words.Step word) d = do
  name ← or_fault faults.Field (text_at (codes "group") d)
  said ← op_said word d
  wait ← wait_said word d
  group ← group_named names name
  command ← command_in names group.0 said.0
  o ← if_short command said.1
  Ok (lines.Step group o wait)

-- what an object asks
abbrev pub share_line_at : Names → Data → Result ShareLine Fault
share_line_at names d = do
  word ← or_fault faults.Field (text_at (codes "op") d)
  kind ← or_fault faults.Op (share_word word)
  share_line_for names kind d

-- what a line asks, if it is JSON at all
abbrev pub share_line_in : Names → Option Data → Result ShareLine Fault
share_line_in names None = Err faults.Syntax
share_line_in names (Some d) = share_line_at names d

-- what a line asks of the groups and commands with these names
unfoldable pub share_line : Names → List ℕ → Result ShareLine Fault
share_line names bytes = share_line_in names (read bytes)

-- the group that is asked of is one of so many
abbrev pub IsOfGroups : ℕ → ShareLine → Type 0
IsOfGroups groups lines.Groups = Unit {0}
IsOfGroups groups (lines.Properties group command) = group.0 < groups
IsOfGroups groups (lines.Enter group context) = group.0 < groups
IsOfGroups groups (lines.Step group o wait) = group.0 < groups
