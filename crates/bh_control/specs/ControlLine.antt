-- What a control line asks, or its fault.
use Rattle.std.specs.Prelude.{ℕ, ◌<◌, List, length, codes, Option, Some, None, Result, Ok, Err, ◌&&◌, nat_le, if◌then◌else◌}
use Rattle.std.specs.Str.{bytes_eq}
use Rattle.serde_json.specs.Data.{Data}
use Rattle.serde_json.specs.Find.{get}
use Rattle.serde_json.specs.Read.{read}
use Rattle.bh_base.specs.declared.step.GroupId.{GroupId}
use Rattle.bh_base.specs.declared.step.Request.{Request}
use Rattle.bh_faults.specs.declared.fault.Fault.{Fault}
use Rattle.bh_faults.specs.declared.fault.Fault.TheVariants as faults
use Rattle.bh_lines.specs.Names.{Names}
use Rattle.bh_lines.specs.StepLine.{◌>>=◌, or_fault, text_at, number_at, cache_of, command_of, tuning_of, command_in, is_short_name, group_number}
use Rattle.bh_control.specs.declared.control_line.ControlWord.{ControlWord}
use Rattle.bh_control.specs.declared.control_line.ControlWord.TheVariants as words
use Rattle.bh_control.specs.declared.control_line.ControlLine.{ControlLine}
use Rattle.bh_control.specs.declared.control_line.ControlLine.TheVariants as lines

-- the kind of line of a word
abbrev pub control_word : List ℕ → Option ControlWord
control_word s =
    if bytes_eq s (codes "groups") then Some words.Groups else
    (if bytes_eq s (codes "metrics") then Some words.Metrics else
    (if bytes_eq s (codes "call") then Some words.Call else
    (if bytes_eq s (codes "close") then Some words.Close else
    (if bytes_eq s (codes "totals") then Some words.Totals else
    (if bytes_eq s (codes "tune") then Some words.Tune else
    (if bytes_eq s (codes "properties") then Some words.Properties else None))))))

-- the request of a call of the command of this number, unless its key is of over 32 bytes or its argument of over 64
abbrev pub request_of : ℕ → Option (ℕ × List ℕ) → List ℕ → Result Request Fault
request_of command cache arg =
    if is_short_name cache && nat_le (length arg) 64 then Ok (record { command = command; cache = cache; arg = arg }) else Err faults.Long

-- the group of a name, by its place in the list
abbrev pub group_named : Names → List ℕ → Result GroupId Fault
group_named names name = do
  number ← or_fault faults.Group (group_number names.groups name)
  Ok (record { 0 = number })

-- what an object asks of the groups with these names, its kind of line known: first what is missing, then whether the
-- property may get the value, then whether there is such a group, then whether it has such a command, then whether the texts
-- are too long
abbrev pub control_line_for : Names → ControlWord → Data → Result ControlLine Fault
control_line_for names words.Groups d = Ok lines.Groups
control_line_for names words.Metrics d = do
  name ← or_fault faults.Field (text_at (codes "group") d)
  said ← command_of (get (codes "command") d)
  group ← group_named names name
  command ← command_in names group.0 said
  Ok (lines.Metrics group command)
control_line_for names words.Call d = do
  name ← or_fault faults.Field (text_at (codes "group") d)
  said ← command_of (get (codes "command") d)
  arg ← or_fault faults.Field (text_at (codes "arg") d)
  cache ← cache_of (get (codes "context") d) (get (codes "key") d)
  group ← group_named names name
  command ← command_in names group.0 said
  request ← request_of command cache arg
  Ok (lines.Call group request)
control_line_for names words.Close d = do
  name ← or_fault faults.Field (text_at (codes "group") d)
  context ← or_fault faults.Field (number_at (codes "context") d)
  group ← group_named names name
  Ok (lines.Close group context)
control_line_for names words.Totals d = do
  name ← or_fault faults.Field (text_at (codes "group") d)
  said ← command_of (get (codes "command") d)
  group ← group_named names name
  command ← command_in names group.0 said
  Ok (lines.Totals group command)
control_line_for names words.Tune d = do
  name ← or_fault faults.Field (text_at (codes "group") d)
  said ← command_of (get (codes "command") d)
  t ← tuning_of d
  group ← group_named names name
  command ← command_in names group.0 said
  Ok (lines.Tune group command t)
control_line_for names words.Properties d = do
  name ← or_fault faults.Field (text_at (codes "group") d)
  said ← command_of (get (codes "command") d)
  group ← group_named names name
  command ← command_in names group.0 said
  Ok (lines.Properties group command)

-- what an object asks
abbrev pub control_line_at : Names → Data → Result ControlLine Fault
control_line_at names d = do
  word ← or_fault faults.Field (text_at (codes "op") d)
  kind ← or_fault faults.Op (control_word word)
  control_line_for names kind d

-- what a line asks, if it is JSON at all
abbrev pub control_line_in : Names → Option Data → Result ControlLine Fault
control_line_in names None = Err faults.Syntax
control_line_in names (Some d) = control_line_at names d

-- what a line asks of the groups and commands with these names
unfoldable pub control_line : Names → List ℕ → Result ControlLine Fault
control_line names bytes = control_line_in names (read bytes)

-- the group that is asked of is one of so many
abbrev pub IsOfGroups : ℕ → ControlLine → Type 0
IsOfGroups groups lines.Groups = Unit {0}
IsOfGroups groups (lines.Metrics group command) = group.0 < groups
IsOfGroups groups (lines.Call group request) = group.0 < groups
IsOfGroups groups (lines.Close group context) = group.0 < groups
IsOfGroups groups (lines.Totals group command) = group.0 < groups
IsOfGroups groups (lines.Tune group command t) = group.0 < groups
IsOfGroups groups (lines.Properties group command) = group.0 < groups
