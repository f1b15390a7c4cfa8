-- What a line of a script asks for, or its fault.
use Rattle.std.specs.Prelude.{ℕ, List, codes, Option, Some, None, option_map, Result, Ok, Err, if◌then◌else◌}
use Rattle.std.specs.Str.{bytes_eq}
use Rattle.serde_json.specs.Data.{Data}
use Rattle.serde_json.specs.Read.{read}
use Rattle.bh_faults.specs.declared.fault.Fault.{Fault}
use Rattle.bh_faults.specs.declared.fault.Fault.TheVariants as faults
use Rattle.bh_lines.specs.declared.script_line.LineWord.{LineWord}
use Rattle.bh_lines.specs.declared.script_line.LineWord.TheVariants as words
use Rattle.bh_lines.specs.declared.script_line.ScriptLine.{ScriptLine}
use Rattle.bh_lines.specs.declared.script_line.ScriptLine.TheVariants as lines
use Rattle.bh_lines.specs.StepLine.{◌>>=◌, or_fault, text_at, op_word, Said, step_said, step_view}

-- what a word stands for: an operation, or a group that comes or goes
abbrev pub line_word : List ℕ → Option LineWord
line_word s =
    if bytes_eq s (codes "register") then Some words.Register else
    (if bytes_eq s (codes "retire") then Some words.Retire else option_map words.Step (op_word s))

-- what a line asks for: a step, or a group of the first name that is like the group of the second, or that the group of the
-- name goes
pub data Asked : Type 0 where
  a_step : Said → Asked
  a_group : List ℕ → List ℕ → Asked
  an_end : List ℕ → Asked

-- what an object asks for by the word
abbrev pub asked_by : LineWord → Data → Result Asked Fault
asked_by (words.Step word) d = do
  said ← step_said word d
  Ok (a_step said)
asked_by words.Register d = do
  group ← or_fault faults.Field (text_at (codes "group") d)
  like ← or_fault faults.Field (text_at (codes "like") d)
  Ok (a_group group like)
asked_by words.Retire d = do
  group ← or_fault faults.Field (text_at (codes "group") d)
  Ok (an_end group)

-- what an object asks for, whatever groups there are
abbrev pub asked_at : Data → Result Asked Fault
asked_at d = do
  name ← or_fault faults.Field (text_at (codes "op") d)
  word ← or_fault faults.Op (line_word name)
  asked_by word d

-- what a line asks for, if it is JSON at all
abbrev pub asked_in : Option Data → Result Asked Fault
asked_in None = Err faults.Syntax
asked_in (Some d) = asked_at d

-- what a line asks for
unfoldable pub line_asked : List ℕ → Result Asked Fault
line_asked bytes = asked_in (read bytes)

-- what the code found that a line asks for
abbrev pub asked_view : ScriptLine → Asked
asked_view (lines.Step said) = a_step (step_view said)
asked_view (lines.Register group like) = a_group group.now like.now
asked_view (lines.Retire group) = an_end group.now

-- the same, or the fault
abbrev pub found_asked : Result ScriptLine Fault → Result Asked Fault
found_asked (Ok asked) = Ok (asked_view asked)
found_asked (Err fault) = Err fault
