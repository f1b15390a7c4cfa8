-- The words of the worked examples: settings, steps, replies and texts in short forms, by the words of lines.
use Rattle.std.proofs.Common.{◌≡◌, ℕ, Bool, true, false, List, [], ◌∷◌, map, filter, Option, Some, None}
use Rattle.std.specs.Prelude.{◌==◌}
use Rattle.bh_base.specs.declared.props.CommandProps.{CommandProps}
use Rattle.bh_base.specs.Props.{GroupProps}
use Rattle.bh_base.specs.declared.props.Strategy.{Strategy}
use Rattle.bh_base.specs.declared.props.Strategy.TheVariants as strategy
use Rattle.bh_base.specs.declared.props.Tuning.{Tuning}
use Rattle.bh_base.specs.declared.props.Tuning.TheVariants as tuning
use Rattle.bh_base.specs.declared.step.Step.{Step}
use Rattle.bh_base.specs.declared.step.Op.{Op}
use Rattle.bh_base.specs.declared.step.Op.TheVariants as op
use Rattle.bh_base.specs.declared.reply.Reply.{Reply}
use Rattle.bh_base.specs.declared.reply.Reply.TheVariants as reply
use Rattle.bh_base.specs.declared.reply.Answer.TheVariants as answer
use Rattle.bh_base.specs.declared.reply.Cause.{Cause}
use Rattle.bh_base.specs.declared.reply.Cause.TheVariants as cause
use Rattle.bh_base.specs.declared.event.Counts.{Counts}
use Rattle.bh_base.specs.declared.circuit.CircuitState.{CircuitState}
use Rattle.bh_base.specs.declared.circuit.CircuitState.TheVariants as state
use Rattle.bh_base.specs.declared.step.FallbackEnd.{FallbackEnd}
use Rattle.bh_base.specs.declared.step.FallbackEnd.TheVariants as fallback_end
use Rattle.bh_base.specs.declared.reply.FallbackFault.{FallbackFault}
use Rattle.bh_base.specs.declared.reply.FallbackFault.TheVariants as fault
use Rattle.bh_base.specs.Runs.{opened, replies, own}

-- the settings of a group and of its own command
pub record Settings : Type 0 where
  pub slots : ℕ
  pub strategy : Strategy
  pub timeout_ms : ℕ
  pub timeout_on : Bool
  pub semaphore : ℕ
  pub fallback_permits : ℕ
  pub fallback_on : Bool
  pub circuit_on : Bool
  pub volume : ℕ
  pub sleep_ms : ℕ
  pub percent : ℕ
  pub force_open : Bool
  pub force_closed : Bool
  pub window_ms : ℕ
  pub buckets : ℕ
  pub health_ms : ℕ
  pub cache_on : Bool
  pub core : ℕ
  pub max_queue : Option ℕ
  pub queue_threshold : ℕ

-- the properties of the command
abbrev pub command_props : Settings → CommandProps
command_props x = record {
  strategy = x.strategy;
  timeout_ms = x.timeout_ms;
  timeout_on = x.timeout_on;
  semaphore = x.semaphore;
  fallback_permits = x.fallback_permits;
  fallback_on = x.fallback_on;
  circuit_on = x.circuit_on;
  volume = x.volume;
  sleep_ms = x.sleep_ms;
  percent = x.percent;
  force_open = x.force_open;
  force_closed = x.force_closed;
  window_ms = x.window_ms;
  buckets = x.buckets;
  health_ms = x.health_ms;
  cache_on = x.cache_on;
}

-- the properties of the group, which has so many commands beside its own
abbrev pub group_props : Settings → List CommandProps → GroupProps
group_props x further = record {
  slots = x.slots;
  core = x.core;
  max_queue = x.max_queue;
  queue_threshold = x.queue_threshold;
  commands = command_props x ∷ further;
}

-- the built-in settings
abbrev pub plain : Settings
plain = record {
  slots = 64;
  strategy = strategy.Thread;
  timeout_ms = 1000;
  timeout_on = true;
  semaphore = 10;
  fallback_permits = 10;
  fallback_on = true;
  circuit_on = true;
  volume = 20;
  sleep_ms = 5000;
  percent = 50;
  force_open = false;
  force_closed = false;
  window_ms = 10000;
  buckets = 10;
  health_ms = 500;
  cache_on = true;
  core = 10;
  max_queue = None;
  queue_threshold = 5;
}

-- a step limit that no example comes to
abbrev pub unlimited : ℕ
unlimited = 1_099_511_627_776

-- a step and the reply to it
pub record Line : Type 0 where
  pub step : Step
  pub reply : Reply

infix 70 ◌⇒◌
abbrev pub ◌⇒◌ : Step → Reply → Line
does ⇒ says = record { step = does; reply = says }

-- the machine, newly opened, answers the group's own steps as the lines say
abbrev pub IsAnsweredBy : GroupProps → ℕ → ℕ → List Line → Type 0
IsAnsweredBy props limit group lines =
    replies (opened props limit) (own group (map (λ line. line.step) lines)) ≡ map (λ line. line.reply) (filter (λ line. line.step.group.0 == group) lines)

-- the same of a group with its own command alone
abbrev pub IsAnswered : Settings → ℕ → ℕ → List Line → Type 0
IsAnswered settings limit group lines = IsAnsweredBy (group_props settings []) limit group lines

-- the operation in the group at the moment
abbrev pub step_in : ℕ → ℕ → Op → Step
step_in group moment o = record { group = record { 0 = group }; now = moment; op = o }

-- groups
abbrev pub a : ℕ
a = 0

abbrev pub b : ℕ
b = 1

-- steps, by the words of their lines; each begins with the group and the moment
abbrev pub submit : ℕ → ℕ → List ℕ → Step
submit group moment arg = step_in group moment (op.Submit (record { command = 0; cache = None; arg = arg }))

-- a submit with a context and a key of the request cache
abbrev pub submit_cached : ℕ → ℕ → List ℕ → ℕ → List ℕ → Step
submit_cached group moment arg context key = step_in group moment (op.Submit (record { command = 0; cache = Some (context, key); arg = arg }))

abbrev pub start : ℕ → ℕ → Step
start group moment = step_in group moment op.Start

abbrev pub finish : ℕ → ℕ → ℕ → List ℕ → Step
finish group moment ticket body = step_in group moment (op.Finish ticket body)

abbrev pub fail : ℕ → ℕ → ℕ → Step
fail group moment ticket = step_in group moment (op.Fail ticket false)

-- a fail of a bad request
abbrev pub fail_bad : ℕ → ℕ → ℕ → Step
fail_bad group moment ticket = step_in group moment (op.Fail ticket true)

abbrev pub expire : ℕ → ℕ → Step
expire group moment = step_in group moment op.Expire

abbrev pub collect : ℕ → ℕ → ℕ → Step
collect group moment ticket = step_in group moment (op.Collect ticket)

abbrev pub fallback : ℕ → ℕ → ℕ → FallbackEnd → Step
fallback group moment ticket end = step_in group moment (op.FallbackDone ticket end)

abbrev pub close : ℕ → ℕ → ℕ → Step
close group moment context = step_in group moment (op.Close context)

abbrev pub read : ℕ → ℕ → Step
read group moment = step_in group moment (op.Read 0)

abbrev pub totals : ℕ → ℕ → Step
totals group moment = step_in group moment (op.Totals 0)

-- a property of the group's own command, or of its pool, gets a value
abbrev pub tune : ℕ → ℕ → Tuning → Step
tune group moment to = step_in group moment (op.Tune 0 to)

abbrev pub timeout_is : ℕ → Tuning
timeout_is n = tuning.Timeout n

abbrev pub permits_are : ℕ → Tuning
permits_are n = tuning.Semaphore n

abbrev pub circuit_is : Bool → Tuning
circuit_is on = tuning.CircuitOn on

abbrev pub sleep_is : ℕ → Tuning
sleep_is n = tuning.SleepWindow n

abbrev pub force_open_is : Bool → Tuning
force_open_is on = tuning.ForceOpen on

abbrev pub cache_is : Bool → Tuning
cache_is on = tuning.CacheOn on

abbrev pub core_is : ℕ → Tuning
core_is n = tuning.CoreSize n

-- the operation, of the command in place of the group's own
abbrev op_of : Op → ℕ → Op
op_of (op.Submit request) command = op.Submit (record request { command = command })
op_of (op.Read own) command = op.Read command
op_of (op.Totals own) command = op.Totals command
op_of (op.Tune own to) command = op.Tune command to
op_of o command = o

-- the step, of the command in place of the group's own
infix 75 ◌▷◌
abbrev pub ◌▷◌ : Step → ℕ → Step
does ▷ command = record does { op = op_of does.op command }

-- ends of fallbacks
abbrev pub success : List ℕ → FallbackEnd
success body = fallback_end.Success body

abbrev pub failure_end : FallbackEnd
failure_end = fallback_end.Failure

abbrev pub missing_end : FallbackEnd
missing_end = fallback_end.Missing

-- causes and faults
abbrev pub short_circuited : Cause
short_circuited = cause.ShortCircuited

abbrev pub thread_pool_rejected : Cause
thread_pool_rejected = cause.PoolRejected

abbrev pub semaphore_rejected : Cause
semaphore_rejected = cause.SemaphoreRejected

abbrev pub failure : Cause
failure = cause.Failure

abbrev pub timeout : Cause
timeout = cause.Timeout

abbrev pub failed : FallbackFault
failed = fault.Failed

abbrev pub rejected : FallbackFault
rejected = fault.Rejected

abbrev pub missing : FallbackFault
missing = fault.Missing

abbrev pub disabled : FallbackFault
disabled = fault.Disabled

-- replies
abbrev pub queued : ℕ → Reply
queued ticket = reply.Queued ticket

abbrev pub inline : ℕ → Reply
inline ticket = reply.Inline ticket

abbrev pub fallback_due : ℕ → Cause → Reply
fallback_due ticket why = reply.FallbackDue ticket why

abbrev pub joined : ℕ → Reply
joined ticket = reply.Joined ticket

abbrev pub group_full : Reply
group_full = reply.GroupFull

-- a ticket of the command is a worker's
abbrev pub assigned_of : ℕ → ℕ → List ℕ → Reply
assigned_of command ticket arg = reply.Assigned ticket command arg

abbrev pub assigned : ℕ → List ℕ → Reply
assigned ticket arg = assigned_of 0 ticket arg

abbrev pub idle : Reply
idle = reply.Idle

abbrev pub done : Reply
done = reply.Done

abbrev pub late : Reply
late = reply.Late

abbrev pub not_running : Reply
not_running = reply.NotRunning

abbrev pub expired : ℕ → Reply
expired number = reply.Expired number

abbrev pub pending : Reply
pending = reply.Pending

abbrev pub run_fallback : Cause → Reply
run_fallback why = reply.RunFallback why

abbrev pub value : List ℕ → Reply
value body = reply.Answered (answer.Value body)

abbrev pub fallback_value : Cause → List ℕ → Reply
fallback_value why body = reply.Answered (answer.FallbackValue why body)

abbrev pub error : Cause → FallbackFault → Reply
error why no_value = reply.Answered (answer.Error why no_value)

abbrev pub bad_request : Reply
bad_request = reply.Answered answer.BadRequest

abbrev pub no_ticket : Reply
no_ticket = reply.NoTicket

abbrev pub not_in_fallback : Reply
not_in_fallback = reply.NotInFallback

abbrev pub closed : ℕ → Reply
closed number = reply.Closed number

abbrev pub in_all : Counts → Reply
in_all counts = reply.Totals counts

abbrev pub tuned : Reply
tuned = reply.Tuned

abbrev pub out_of_range : Reply
out_of_range = reply.OutOfRange

abbrev pub worn : Reply
worn = reply.Worn

abbrev pub no_command : Reply
no_command = reply.NoCommand

-- states of the circuit breaker
abbrev pub circuit_closed : CircuitState
circuit_closed = state.Closed

abbrev pub circuit_open : ℕ → CircuitState
circuit_open opened = state.Open opened

abbrev pub circuit_half_open : ℕ → ℕ → CircuitState
circuit_half_open opened test = state.HalfOpen opened test

-- no event of any kind
abbrev pub none : Counts
none = record {
  bad_request = 0;
  exception_thrown = 0;
  failure = 0;
  fallback_failure = 0;
  fallback_missing = 0;
  fallback_rejection = 0;
  fallback_success = 0;
  response_from_cache = 0;
  semaphore_rejected = 0;
  short_circuited = 0;
  success = 0;
  thread_pool_rejected = 0;
  timeout = 0;
}

-- the circuit; busy, queued and free; errors and total, and percent; the counts
abbrev pub metrics : CircuitState → ℕ → ℕ → ℕ → ℕ → ℕ → ℕ → Counts → Reply
metrics circuit busy queued free errors total percent counts =
    reply.Metrics (record { circuit = circuit; counts = counts; errors = errors; total = total; percent = percent; busy = busy; queued = queued; free = free })

-- texts, each by its letters
abbrev pub k : List ℕ
k = 107 ∷ []

abbrev pub p : List ℕ
p = 112 ∷ []

abbrev pub q : List ℕ
q = 113 ∷ []

abbrev pub r : List ℕ
r = 114 ∷ []

abbrev pub s : List ℕ
s = 115 ∷ []

abbrev pub t : List ℕ
t = 116 ∷ []

abbrev pub u : List ℕ
u = 117 ∷ []

abbrev pub v : List ℕ
v = 118 ∷ []

abbrev pub w : List ℕ
w = 119 ∷ []

abbrev pub x : List ℕ
x = 120 ∷ []

abbrev pub y : List ℕ
y = 121 ∷ []

abbrev pub z : List ℕ
z = 122 ∷ []

abbrev pub ok : List ℕ
ok = 111 ∷ 107 ∷ []

abbrev pub one : List ℕ
one = 111 ∷ 110 ∷ 101 ∷ []

abbrev pub two : List ℕ
two = 116 ∷ 119 ∷ 111 ∷ []
