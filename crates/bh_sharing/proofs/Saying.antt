-- What the line of a step says.
use Rattle.std.proofs.Common.{◌≡◌, ◌≤◌, ◌∙◌, ℕ, List, false, true, Option, None, Some, IfSome, Result, Ok, Err, OnOk, refl, ap, lit≤, unwrap_or}
use Rattle.std.specs.declared.alloc.AllocError.{AllocError}
use Rattle.serde_json.specs.Data.{Data, depth}
use Rattle.serde_json.specs.Read.{max_depth, read}
use Rattle.serde_json.specs.Written.{compact_text, has_float}
use Rattle.bh_base.specs.declared.step.FallbackEnd.{FallbackEnd}
use Rattle.bh_base.specs.declared.step.FallbackEnd.TheVariants as ends
use Rattle.bh_base.specs.declared.step.Op.{Op}
use Rattle.bh_base.specs.declared.step.Op.TheVariants as op
use Rattle.bh_base.specs.declared.step.Request.{Request}
use Rattle.bh_base.specs.declared.step.Step.{Step}
use Rattle.bh_base.specs.declared.props.Tuning.{Tuning}
use Rattle.bh_lines.specs.Names.{Names}
use Rattle.bh_lines.specs.ScriptLine.{a_step, asked_at, asked_in, line_asked}
use Rattle.bh_lines.specs.StepLine.{is_short, of_command}
use Rattle.bh_tuning.specs.declared.named.Given.{Given}
use Rattle.bh_tuning.specs.declared.named.Given.TheVariants as given
use Rattle.bh_tuning.specs.Named.{IsSaidByName, name_of, tuning_named, value_of}
use Rattle.bh_sharing.specs.StepText.{SaysEnd, SaysStep, command_said, end_data, fallback_data, is_sayable, op_data, step_data, command_of_op, name_of_command, submit_data, tune_data}

-- no line of a step has a float
submit-floatless : (group : List ℕ) (now : ℕ) (command : List ℕ) (r : Request) (cache : Option (ℕ × List ℕ)) → has_float (submit_data group now command r cache) ≡ false
submit-floatless group now command r None = refl
submit-floatless group now command r (Some cache) = refl

fallback-floatless : (group : List ℕ) (now ticket : ℕ) (end : FallbackEnd) → has_float (fallback_data group now ticket end) ≡ false
fallback-floatless group now ticket (ends.Success body) = refl
fallback-floatless group now ticket ends.Failure = refl
fallback-floatless group now ticket ends.Missing = refl

tune-floatless : (group : List ℕ) (now : ℕ) (command property : List ℕ) (v : Given) → has_float (tune_data group now command property v) ≡ false
tune-floatless group now command property (given.Number n) = refl
tune-floatless group now command property (given.Truth b) = refl

op-floatless : (names : Names) (number : ℕ) (group : List ℕ) (now : ℕ) (o : Op) → has_float (op_data names number group now o) ≡ false
op-floatless names number group now (op.Submit r) = submit-floatless group now _ r r.cache
op-floatless names number group now op.Start = refl
op-floatless names number group now (op.Finish ticket body) = refl
op-floatless names number group now (op.Fail ticket bad) = refl
op-floatless names number group now op.Expire = refl
op-floatless names number group now (op.Collect ticket) = refl
op-floatless names number group now (op.FallbackDone ticket end) = fallback-floatless group now ticket end
op-floatless names number group now (op.Close context) = refl
op-floatless names number group now (op.Read command) = refl
op-floatless names number group now (op.Totals command) = refl
op-floatless names number group now (op.Tune command t) = tune-floatless group now (name_of_command names number group command) (name_of t) (value_of t)

pub step-floatless : (names : Names) (group : List ℕ) (step : Step) → has_float (step_data names group step) ≡ false
step-floatless names group step = op-floatless names step.group.0 group step.now step.op

-- nor nests deep
submit-flat : (group : List ℕ) (now : ℕ) (command : List ℕ) (r : Request) (cache : Option (ℕ × List ℕ)) → depth (submit_data group now command r cache) ≤ max_depth
submit-flat group now command r None = lit≤ tt
submit-flat group now command r (Some cache) = lit≤ tt

fallback-flat : (group : List ℕ) (now ticket : ℕ) (end : FallbackEnd) → depth (fallback_data group now ticket end) ≤ max_depth
fallback-flat group now ticket (ends.Success body) = lit≤ tt
fallback-flat group now ticket ends.Failure = lit≤ tt
fallback-flat group now ticket ends.Missing = lit≤ tt

tune-flat : (group : List ℕ) (now : ℕ) (command property : List ℕ) (v : Given) → depth (tune_data group now command property v) ≤ max_depth
tune-flat group now command property (given.Number n) = lit≤ tt
tune-flat group now command property (given.Truth b) = lit≤ tt

op-flat : (names : Names) (number : ℕ) (group : List ℕ) (now : ℕ) (o : Op) → depth (op_data names number group now o) ≤ max_depth
op-flat names number group now (op.Submit r) = submit-flat group now _ r r.cache
op-flat names number group now op.Start = lit≤ tt
op-flat names number group now (op.Finish ticket body) = lit≤ tt
op-flat names number group now (op.Fail ticket bad) = lit≤ tt
op-flat names number group now op.Expire = lit≤ tt
op-flat names number group now (op.Collect ticket) = lit≤ tt
op-flat names number group now (op.FallbackDone ticket end) = fallback-flat group now ticket end
op-flat names number group now (op.Close context) = lit≤ tt
op-flat names number group now (op.Read command) = lit≤ tt
op-flat names number group now (op.Totals command) = lit≤ tt
op-flat names number group now (op.Tune command t) = tune-flat group now (name_of_command names number group command) (name_of t) (value_of t)

pub step-flat : (names : Names) (group : List ℕ) (step : Step) → depth (step_data names group step) ≤ max_depth
step-flat names group step = op-flat names step.group.0 group step.now step.op

-- its object asks for the step
submit-asks : (names : Names) (number : ℕ) (group : List ℕ) (now : ℕ) (r : Request) (cache : Option (ℕ × List ℕ)) → r.cache ≡ cache
    → asked_at (submit_data group now (name_of_command names number group r.command) r cache)
    ≡ Ok (a_step (record { group = group; now = now; command = Some (name_of_command names number group r.command); op = op.Submit (record { command = 0; cache = cache; arg = r.arg }) }))
submit-asks names number group now r None is = refl
submit-asks names number group now r (Some cache) is = refl

fallback-asks : (group : List ℕ) (now ticket : ℕ) (end : FallbackEnd)
    → asked_at (fallback_data group now ticket end) ≡ Ok (a_step (record { group = group; now = now; command = None; op = op.FallbackDone ticket end }))
fallback-asks group now ticket (ends.Success body) = refl
fallback-asks group now ticket ends.Failure = refl
fallback-asks group now ticket ends.Missing = refl

-- a change, whatever its name and its value say
tune-asks : (group : List ℕ) (now : ℕ) (command property : List ℕ) (v : Given) (t : Tuning) → tuning_named property v ≡ Ok t
    → asked_at (tune_data group now command property v) ≡ Ok (a_step (record { group = group; now = now; command = Some command; op = op.Tune 0 t }))
tune-asks group now command property (given.Number n) t is = rw is refl
tune-asks group now command property (given.Truth b) t is = rw is refl

op-asks : IsSaidByName → (names : Names) (number : ℕ) (group : List ℕ) (now : ℕ) (o : Op) → is_sayable o ≡ true
    → asked_at (op_data names number group now o) ≡ Ok (a_step (record { group = group; now = now; command = command_said names number group o; op = of_command 0 o }))
op-asks law names number group now (op.Submit r) sayable = submit-asks names number group now r r.cache refl
op-asks law names number group now op.Start sayable = refl
op-asks law names number group now (op.Finish ticket body) sayable = refl
op-asks law names number group now (op.Fail ticket bad) sayable = refl
op-asks law names number group now op.Expire sayable = refl
op-asks law names number group now (op.Collect ticket) sayable = refl
op-asks law names number group now (op.FallbackDone ticket end) sayable = fallback-asks group now ticket end
op-asks law names number group now (op.Close context) sayable = refl
op-asks law names number group now (op.Read command) sayable = refl
op-asks law names number group now (op.Totals command) sayable = refl
op-asks law names number group now (op.Tune command t) sayable =
    tune-asks group now (name_of_command names number group command) (name_of t) (value_of t) t (law t sayable)

-- with the number of its command it is the operation itself
is-op : (o : Op) → of_command (unwrap_or (command_of_op o) 0) (of_command 0 o) ≡ o
is-op (op.Submit r) = refl
is-op op.Start = refl
is-op (op.Finish ticket body) = refl
is-op (op.Fail ticket bad) = refl
is-op op.Expire = refl
is-op (op.Collect ticket) = refl
is-op (op.FallbackDone ticket end) = refl
is-op (op.Close context) = refl
is-op (op.Read command) = refl
is-op (op.Totals command) = refl
is-op (op.Tune command t) = refl

short-own : (o : Op) → is_short (of_command 0 o) ≡ is_short o
short-own (op.Submit r) = refl
short-own op.Start = refl
short-own (op.Finish ticket body) = refl
short-own (op.Fail ticket bad) = refl
short-own op.Expire = refl
short-own (op.Collect ticket) = refl
short-own (op.FallbackDone ticket end) = refl
short-own (op.Close context) = refl
short-own (op.Read command) = refl
short-own (op.Totals command) = refl
short-own (op.Tune command t) = refl

pub says-step : IsSaidByName → (names : Names) (step : Step) (group : List ℕ) → is_sayable step.op ≡ true → is_short step.op ≡ true → read (compact_text (step_data names group step)) ≡ Some (step_data names group step) → SaysStep names step group
unfolding line_asked
says-step law names step group sayable short reads = (
  ap asked_in reads ∙ op-asks law names step.group.0 group step.now step.op sayable,
  rw (short-own step.op ∙ short) (ap Ok (is-op step.op)),
)

pub end-asks : (group : List ℕ) (now : ℕ) → read (compact_text (end_data group now)) ≡ Some (end_data group now) → SaysEnd now group
unfolding line_asked
end-asks group now reads = ap asked_in reads

-- where its line was put
pub put-says : IsSaidByName → (names : Names) (step : Step) (found : Option (List ℕ)) (group : List ℕ) (d : Data)
    → Some group ≡ found → is_sayable step.op ≡ true → d ≡ step_data names group step → is_short step.op ≡ true → (depth d ≤ max_depth → read (compact_text d) ≡ Some d) → IfSome found (SaysStep names step)
put-says law names step found group d there sayable is short reads =
    rw (← there) (says-step law names step group sayable short ((rw is at reads) (step-flat names group step)))

pub put-says-end : (result : Result (Unit {0}) AllocError) (now : ℕ) (found : Option (List ℕ)) (group : List ℕ) (d : Data)
    → Some group ≡ found → d ≡ end_data group now → (depth d ≤ max_depth → read (compact_text d) ≡ Some d) → OnOk result (IfSome found (SaysEnd now))
put-says-end (Ok x) now found group d there is reads =
    rw (← there) (end-asks group now ((rw is at reads) (lit≤ tt)))
put-says-end (Err refused) now found group d there is reads = tt
