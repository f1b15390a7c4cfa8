-- The step that C gives, or why there is none.
use Rattle.std.specs.Prelude.{ℕ, List, take, Bool, nat_le, ◌==◌, true, false, Option, Some, None, Result, Ok, Err, if◌then◌else◌}
use Rattle.std.specs.Str.{is_utf8}
use Rattle.bh_base.specs.declared.step.FallbackEnd.TheVariants as ends
use Rattle.bh_base.specs.declared.step.Op.{Op}
use Rattle.bh_base.specs.declared.step.Op.TheVariants as op
use Rattle.bh_base.specs.declared.step.Step.{Step}
use Rattle.bh_base.specs.declared.props.Tuning.{Tuning}
use Rattle.bh_tuning.specs.declared.named.Given.TheVariants as given
use Rattle.bh_tuning.specs.declared.named.Untunable.{Untunable}
use Rattle.bh_tuning.specs.declared.named.Untunable.TheVariants as untunable
use Rattle.bh_tuning.specs.Named.{tuning_named}
use Rattle.bh_c.specs.declared.given.GivenStep.{GivenStep}
use Rattle.bh_c.specs.declared.given.OpNumber.{OpNumber}
use Rattle.bh_c.specs.declared.given.OpNumber.TheVariants as numbers
use Rattle.bh_c.specs.declared.outcome.Outcome.{Outcome}
use Rattle.bh_c.specs.declared.outcome.Outcome.TheVariants.{NotText, TooLong, NoSuchOperation, NoSuchProperty, OutOfRange}

infixl 10 ◌>>=◌
-- goes on unless there is a refusal
abbrev pub ◌>>=◌ : {A B : Type 0} → Result A Outcome → (A → Result B Outcome) → Result B Outcome
(Ok x) >>= f = f x
(Err e) >>= f = Err e

-- the operation of a number
abbrev pub op_number : ℕ → Option OpNumber
op_number n =
    if n == 1 then Some numbers.Submit else
    (if n == 2 then Some numbers.SubmitShared else
    (if n == 3 then Some numbers.Start else
    (if n == 4 then Some numbers.Finish else
    (if n == 5 then Some numbers.Fail else
    (if n == 6 then Some numbers.BadRequest else
    (if n == 7 then Some numbers.Expire else
    (if n == 8 then Some numbers.Collect else
    (if n == 9 then Some numbers.FallbackValue else
    (if n == 10 then Some numbers.FallbackFailed else
    (if n == 11 then Some numbers.FallbackMissing else
    (if n == 12 then Some numbers.Close else
    (if n == 13 then Some numbers.Read else
    (if n == 14 then Some numbers.Tune else
    (if n == 15 then Some numbers.Totals else None))))))))))))))

-- the operation, or that there is none
abbrev pub or_no_operation : Option OpNumber → Result OpNumber Outcome
or_no_operation None = Err NoSuchOperation
or_no_operation (Some number) = Ok number

-- the bytes, where they are UTF-8
unfoldable pub or_not_text : List ℕ → Result (List ℕ) Outcome
or_not_text bytes = if is_utf8 bytes then Ok bytes else Err NotText

-- the text of so many bytes in front, of at most the limit
abbrev pub text_in : ℕ → ℕ → List ℕ → Result (List ℕ) Outcome
text_in limit count bytes = if nat_le count limit then or_not_text (take count bytes) else Err TooLong

-- what C is told where a property does not get a value
abbrev pub refusal : Untunable → Outcome
refusal untunable.NoProperty = NoSuchProperty
refusal untunable.WrongType = OutOfRange
refusal untunable.OutOfRange = OutOfRange

-- the change, or what C is told in its place
abbrev pub or_refusal : Result Tuning Untunable → Result Tuning Outcome
or_refusal (Ok t) = Ok t
or_refusal (Err why) = Err (refusal why)

-- the change of a property that is a truth value, by 0 or 1
abbrev pub truth_in : List ℕ → ℕ → Result Tuning Outcome
truth_in name value = if nat_le value 1 then or_refusal (tuning_named name (given.Truth (value == 1))) else Err OutOfRange

-- the change by a number, as far as the property is one
abbrev pub or_truth : List ℕ → ℕ → Result Tuning Untunable → Result Tuning Outcome
or_truth name value (Ok t) = Ok t
or_truth name value (Err untunable.NoProperty) = Err NoSuchProperty
or_truth name value (Err untunable.WrongType) = truth_in name value
or_truth name value (Err untunable.OutOfRange) = Err OutOfRange

-- the change that the name of a property and a number say: the number where the property is one, and else a truth value
abbrev pub tuning_in : List ℕ → ℕ → Result Tuning Outcome
tuning_in name value = or_truth name value (tuning_named name (given.Number value))

-- the operation that the number names
abbrev pub op_in : OpNumber → GivenStep → Result Op Outcome
op_in numbers.Submit s = do
  arg ← text_in 64 s.text_length s.text
  Ok (op.Submit (record { command = s.command; cache = None; arg = arg }))
op_in numbers.SubmitShared s = do
  key ← text_in 32 s.key_length s.key
  arg ← text_in 64 s.text_length s.text
  Ok (op.Submit (record { command = s.command; cache = Some (s.context, key); arg = arg }))
op_in numbers.Start s = Ok op.Start
op_in numbers.Finish s = do
  body ← text_in 256 s.text_length s.text
  Ok (op.Finish s.ticket body)
op_in numbers.Fail s = Ok (op.Fail s.ticket false)
op_in numbers.BadRequest s = Ok (op.Fail s.ticket true)
op_in numbers.Expire s = Ok op.Expire
op_in numbers.Collect s = Ok (op.Collect s.ticket)
op_in numbers.FallbackValue s = do
  body ← text_in 256 s.text_length s.text
  Ok (op.FallbackDone s.ticket (ends.Success body))
op_in numbers.FallbackFailed s = Ok (op.FallbackDone s.ticket ends.Failure)
op_in numbers.FallbackMissing s = Ok (op.FallbackDone s.ticket ends.Missing)
op_in numbers.Close s = Ok (op.Close s.context)
op_in numbers.Read s = Ok (op.Read s.command)
op_in numbers.Tune s = do
  name ← text_in 64 s.text_length s.text
  tuning ← tuning_in name s.context
  Ok (op.Tune s.command tuning)
op_in numbers.Totals s = Ok (op.Totals s.command)

-- the step of an operation
abbrev pub step_of : GivenStep → Op → Step
step_of s o = record { group = record { 0 = s.group }; now = s.moment; op = o }

-- the step of the operation that the number names
abbrev pub made_in : OpNumber → GivenStep → Result Step Outcome
made_in number s = do
  o ← op_in number s
  Ok (step_of s o)

-- the step that is given: its operation is looked at before its texts, a key before an argument, and the name of a property
-- before its value
abbrev pub step_in : GivenStep → Result Step Outcome
step_in s = do
  number ← or_no_operation (op_number s.operation)
  made_in number s
