-- The step that an object says, or the fault.
use Rattle.std.specs.Prelude.{ℕ, List, length, codes, Option, Some, None, option_and_then, option_map, option_copied, Result, Ok, Err, Bool, true, ◌&&◌, nat_le, if◌then◌else◌}
use Rattle.std.specs.List.{position_from}
use Rattle.std.specs.Str.{bytes_eq}
use Rattle.std.specs.Borrow.{Bor}
use Rattle.serde_json.specs.Data.{Data}
use Rattle.serde_json.specs.Find.{get, as_str, as_bool, as_number, as_u64}
use Rattle.bh_base.specs.declared.step.FallbackEnd.{FallbackEnd}
use Rattle.bh_base.specs.declared.step.FallbackEnd.TheVariants as ends
use Rattle.bh_base.specs.declared.step.Op.{Op}
use Rattle.bh_base.specs.declared.step.Op.TheVariants as op
use Rattle.std.specs.Option.{option_or}
use Rattle.bh_base.specs.declared.props.Tuning.{Tuning}
use Rattle.bh_tuning.specs.declared.named.Given.{Given}
use Rattle.bh_tuning.specs.declared.named.Given.TheVariants as given
use Rattle.bh_tuning.specs.declared.named.Untunable.{Untunable}
use Rattle.bh_tuning.specs.declared.named.Untunable.TheVariants as untunable
use Rattle.bh_tuning.specs.Named.{tuning_named}
use Rattle.bh_faults.specs.declared.fault.Fault.{Fault}
use Rattle.bh_faults.specs.declared.fault.Fault.TheVariants as faults
use Rattle.bh_lines.specs.declared.step_line.OpWord.{OpWord}
use Rattle.bh_lines.specs.declared.step_line.OpWord.TheVariants as words
use Rattle.bh_lines.specs.declared.step_line.EndLine.{EndLine}
use Rattle.bh_lines.specs.declared.step_line.EndLine.TheVariants as end_lines
use Rattle.bh_lines.specs.declared.step_line.OpLine.{OpLine}
use Rattle.bh_lines.specs.declared.step_line.OpLine.TheVariants as lines
use Rattle.bh_lines.specs.declared.step_line.StepLine.{StepLine}
use Rattle.bh_lines.specs.Names.{Names, command_number}

-- a member that is text
abbrev pub text_at : List ℕ → Data → Option (List ℕ)
text_at name d = option_and_then as_str (get name d)

-- a member that is a whole number of 64 bits
abbrev pub number_at : List ℕ → Data → Option ℕ
number_at name d = option_and_then as_u64 (option_and_then as_number (get name d))

-- a member that is a truth value
abbrev pub truth_at : List ℕ → Data → Option Bool
truth_at name d = option_and_then as_bool (get name d)

infixl 10 ◌>>=◌
-- goes on unless there is a fault
abbrev pub ◌>>=◌ : {A B : Type 0} → Result A Fault → (A → Result B Fault) → Result B Fault
(Ok x) >>= f = f x
(Err e) >>= f = Err e

-- what is there, or the fault
abbrev pub or_fault : {A : Type 0} → Fault → Option A → Result A Fault
or_fault fault (Some x) = Ok x
or_fault fault None = Err fault

-- the operation of a word
abbrev pub op_word : List ℕ → Option OpWord
op_word s =
    if bytes_eq s (codes "submit") then Some words.Submit else
    (if bytes_eq s (codes "start") then Some words.Start else
    (if bytes_eq s (codes "finish") then Some words.Finish else
    (if bytes_eq s (codes "fail") then Some words.Fail else
    (if bytes_eq s (codes "expire") then Some words.Expire else
    (if bytes_eq s (codes "collect") then Some words.Collect else
    (if bytes_eq s (codes "fallback") then Some words.FallbackDone else
    (if bytes_eq s (codes "close") then Some words.Close else
    (if bytes_eq s (codes "read") then Some words.Read else
    (if bytes_eq s (codes "totals") then Some words.Totals else
    (if bytes_eq s (codes "tune") then Some words.Tune else None))))))))))

-- the context and the key of a submit: both or neither
abbrev pub cache_of : Option Data → Option Data → Result (Option (ℕ × List ℕ)) Fault
cache_of None None = Ok None
cache_of (Some c) (Some k) = do
  context ← or_fault faults.Field (option_and_then as_u64 (as_number c))
  key ← or_fault faults.Field (as_str k)
  Ok (Some (context, key))
cache_of (Some c) None = Err faults.Field
cache_of None (Some k) = Err faults.Field

-- the name of a command, where one is said
abbrev pub command_of : Option Data → Result (Option (List ℕ)) Fault
command_of None = Ok None
command_of (Some c) = do
  name ← or_fault faults.Field (as_str c)
  Ok (Some name)

-- a whole number of 64 bits, where one is said
abbrev pub number_if_any : Option Data → Result (Option ℕ) Fault
number_if_any None = Ok None
number_if_any (Some d) = do
  n ← or_fault faults.Field (option_and_then as_u64 (as_number d))
  Ok (Some n)

-- how a fallback ended, by its word: the value stands beside a success, and nothing is read beside another end
abbrev pub fallback_end_of : List ℕ → Data → Result FallbackEnd Fault
fallback_end_of word d =
    if bytes_eq word (codes "success") then or_fault faults.Field (option_map ends.Success (text_at (codes "body") d)) else
    (if bytes_eq word (codes "failure") then Ok ends.Failure else
    (if bytes_eq word (codes "missing") then Ok ends.Missing else Err faults.Field))

-- a member that a property may be given: a whole number of 64 bits, or a truth value
abbrev pub given_at : List ℕ → Data → Option Given
given_at name d = option_or (option_map given.Number (number_at name d)) (option_map given.Truth (truth_at name d))

-- why a line does not change a property
abbrev pub untunable_fault : Untunable → Fault
untunable_fault untunable.NoProperty = faults.Property
untunable_fault untunable.WrongType = faults.Field
untunable_fault untunable.OutOfRange = faults.Range

-- the change, or the fault
abbrev pub change_of : Result Tuning Untunable → Result Tuning Fault
change_of (Ok t) = Ok t
change_of (Err why) = Err (untunable_fault why)

-- the change of a property that an object says: first whether the name and the value are there, then whether the property may
-- change, then whether the value is of its type, then whether it is within its range
abbrev pub tuning_of : Data → Result Tuning Fault
tuning_of d = do
  name ← or_fault faults.Field (text_at (codes "property") d)
  v ← or_fault faults.Field (given_at (codes "value") d)
  change_of (tuning_named name v)

-- the operation that an object says, with texts of any length, as one of the group's own command
abbrev pub op_at : OpWord → Data → Result Op Fault
op_at words.Submit d = do
  cache ← cache_of (get (codes "context") d) (get (codes "key") d)
  arg ← or_fault faults.Field (text_at (codes "arg") d)
  Ok (op.Submit (record { command = 0; cache = cache; arg = arg }))
op_at words.Start d = Ok op.Start
op_at words.Finish d = do
  ticket ← or_fault faults.Field (number_at (codes "ticket") d)
  body ← or_fault faults.Field (text_at (codes "body") d)
  Ok (op.Finish ticket body)
op_at words.Fail d = do
  ticket ← or_fault faults.Field (number_at (codes "ticket") d)
  bad ← or_fault faults.Field (truth_at (codes "bad") d)
  Ok (op.Fail ticket bad)
op_at words.Expire d = Ok op.Expire
op_at words.Collect d = do
  ticket ← or_fault faults.Field (number_at (codes "ticket") d)
  Ok (op.Collect ticket)
op_at words.FallbackDone d = do
  ticket ← or_fault faults.Field (number_at (codes "ticket") d)
  word ← or_fault faults.Field (text_at (codes "end") d)
  end ← fallback_end_of word d
  Ok (op.FallbackDone ticket end)
op_at words.Close d = do
  context ← or_fault faults.Field (number_at (codes "context") d)
  Ok (op.Close context)
op_at words.Read d = Ok (op.Read 0)
op_at words.Totals d = Ok (op.Totals 0)
op_at words.Tune d = do
  t ← tuning_of d
  Ok (op.Tune 0 t)

-- the name of the command that an object says: it counts for a submit, a read, totals and a change alone
abbrev pub command_at : OpWord → Data → Result (Option (List ℕ)) Fault
command_at words.Submit d = command_of (get (codes "command") d)
command_at words.Read d = command_of (get (codes "command") d)
command_at words.Totals d = command_of (get (codes "command") d)
command_at words.Tune d = command_of (get (codes "command") d)
command_at _ d = Ok None

-- the name of the command, where one is said, and the operation
abbrev pub op_said : OpWord → Data → Result (Option (List ℕ) × Op) Fault
op_said word d = do
  command ← command_at word d
  o ← op_at word d
  Ok (command, o)

-- a key is of at most 32 bytes
abbrev pub is_short_name : Option (ℕ × List ℕ) → Bool
is_short_name None = true
is_short_name (Some name) = nat_le (length name.1) 32

-- the value of a fallback is of at most 256 bytes
abbrev pub is_short_end : FallbackEnd → Bool
is_short_end (ends.Success body) = nat_le (length body) 256
is_short_end _ = true

-- an argument is of at most 64 bytes, and a body of at most 256
abbrev pub is_short : Op → Bool
is_short (op.Submit request) = is_short_name request.cache && nat_le (length request.arg) 64
is_short (op.Finish ticket body) = nat_le (length body) 256
is_short (op.FallbackDone ticket end) = is_short_end end
is_short _ = true

-- the operation, as one of the command of this number
abbrev pub of_command : ℕ → Op → Op
of_command number (op.Submit request) = op.Submit (record request { command = number })
of_command number (op.Read own) = op.Read number
of_command number (op.Totals own) = op.Totals number
of_command number (op.Tune own t) = op.Tune number t
of_command number o = o

-- the operation of the command of this number, unless a text is too long
abbrev pub if_short : ℕ → Op → Result Op Fault
if_short number o = if is_short o then Ok (of_command number o) else Err faults.Long

-- the number of the group of a name: its place in the list of names, from 0
abbrev pub group_number : List (List ℕ) → List ℕ → Option ℕ
group_number names name = position_from (λ n. bytes_eq n name) 0 names

-- the number of the command of a name in the group, or of the group's own command where no name is said
abbrev pub command_in : Names → ℕ → Option (List ℕ) → Result ℕ Fault
command_in names group None = Ok 0
command_in names group (Some name) = or_fault faults.Command (command_number names group name)

-- a step as an object says it: the group by its name, the moment, the command by its name if one is said, and the
-- operation with texts of any length, as one of the group's own command
pub record Said : Type 0 where
  pub group : List ℕ
  pub now : ℕ
  pub command : Option (List ℕ)
  pub op : Op

-- the step of the operation that an object says, whatever groups there are
abbrev pub step_said : OpWord → Data → Result Said Fault
step_said word d = do
  group ← or_fault faults.Field (text_at (codes "group") d)
  now ← or_fault faults.Field (number_at (codes "now") d)
  said ← op_said word d
  Ok (record { group = group; now = now; command = said.0; op = said.1 })

-- the context and the key that the code found
abbrev pub cache_view : Option (ℕ × Bor (List ℕ)) → Option (ℕ × List ℕ)
cache_view None = None
cache_view (Some name) = Some (name.0, name.1.now)

-- the end of a fallback that the code found
abbrev pub end_view : EndLine → FallbackEnd
end_view (end_lines.Success body) = ends.Success body.now
end_view end_lines.Failure = ends.Failure
end_view end_lines.Missing = ends.Missing

-- the operation that the code found, as one of the group's own command
abbrev pub op_view : OpLine → Op
op_view (lines.Submit command cache arg) = op.Submit (record { command = 0; cache = cache_view cache; arg = arg.now })
op_view lines.Start = op.Start
op_view (lines.Finish ticket body) = op.Finish ticket body.now
op_view (lines.Fail ticket bad) = op.Fail ticket bad
op_view lines.Expire = op.Expire
op_view (lines.Collect ticket) = op.Collect ticket
op_view (lines.FallbackDone ticket end) = op.FallbackDone ticket (end_view end)
op_view (lines.Close context) = op.Close context
op_view (lines.Read command) = op.Read 0
op_view (lines.Totals command) = op.Totals 0
op_view (lines.Tune command t) = op.Tune 0 t

-- the name of the command that the code found
abbrev pub command_view : OpLine → Option (List ℕ)
command_view (lines.Submit command cache arg) = option_copied command
command_view (lines.Read command) = option_copied command
command_view (lines.Totals command) = option_copied command
command_view (lines.Tune command t) = option_copied command
command_view _ = None

-- the name of the command that the code found, or the fault
abbrev pub found_command : Result (Option (Bor (List ℕ))) Fault → Result (Option (List ℕ)) Fault
found_command (Ok command) = Ok (option_copied command)
found_command (Err fault) = Err fault

-- the name of the command and the operation that the code found, or the fault
abbrev pub found_op : Result OpLine Fault → Result (Option (List ℕ) × Op) Fault
found_op (Ok o) = Ok (command_view o, op_view o)
found_op (Err fault) = Err fault

-- the context and the key that the code found, or the fault
abbrev pub found_cache : Result (Option (ℕ × Bor (List ℕ))) Fault → Result (Option (ℕ × List ℕ)) Fault
found_cache (Ok cache) = Ok (cache_view cache)
found_cache (Err fault) = Err fault

-- the end of a fallback that the code found, or the fault
abbrev pub found_end : Result EndLine Fault → Result FallbackEnd Fault
found_end (Ok end) = Ok (end_view end)
found_end (Err fault) = Err fault

-- the step that the code found
abbrev pub step_view : StepLine → Said
step_view said = record { group = said.group.now; now = said.now; command = command_view said.op; op = op_view said.op }

-- the step that the code found that an object says, or the fault
abbrev pub found_said : Result StepLine Fault → Result Said Fault
found_said (Ok said) = Ok (step_view said)
found_said (Err fault) = Err fault
