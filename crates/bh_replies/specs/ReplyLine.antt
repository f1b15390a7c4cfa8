-- The lines of replies.
use Rattle.std.specs.Prelude.{ℕ, List, [], ◌∷◌, ◌++◌, ◌==◌, if◌then◌else◌, codes, Option, Some, None}
use Rattle.serde_json.specs.Data.{Data, object, member, no_members, Members, string, number, unsigned}
use Rattle.serde_json.specs.Written.{compact_text}
use Rattle.bh_base.specs.declared.circuit.CircuitState.{CircuitState}
use Rattle.bh_base.specs.declared.circuit.CircuitState.TheVariants as circuit
use Rattle.bh_base.specs.declared.event.Counts.{Counts}
use Rattle.bh_base.specs.declared.reply.Cause.{Cause}
use Rattle.bh_base.specs.declared.reply.Cause.TheVariants as cause
use Rattle.bh_base.specs.declared.reply.FallbackFault.{FallbackFault}
use Rattle.bh_base.specs.declared.reply.FallbackFault.TheVariants as fault
use Rattle.bh_base.specs.declared.reply.Answer.{Answer}
use Rattle.bh_base.specs.declared.reply.Answer.TheVariants as answer
use Rattle.bh_base.specs.declared.reply.Metrics.{Metrics}
use Rattle.bh_base.specs.declared.reply.Reply.{Reply}
use Rattle.bh_base.specs.declared.reply.Reply.TheVariants as reply

-- the word of each cause of a fallback
abbrev pub cause_word : Cause → List ℕ
cause_word cause.ShortCircuited = codes "short-circuited"
cause_word cause.PoolRejected = codes "thread-pool-rejected"
cause_word cause.SemaphoreRejected = codes "semaphore-rejected"
cause_word cause.Failure = codes "failure"
cause_word cause.Timeout = codes "timeout"

-- the word of each reason why no fallback gave a value
abbrev pub fallback_word : FallbackFault → List ℕ
fallback_word fault.Failed = codes "failed"
fallback_word fault.Rejected = codes "rejected"
fallback_word fault.Missing = codes "missing"
fallback_word fault.Disabled = codes "disabled"

-- the word of each state of a circuit
abbrev pub circuit_word : CircuitState → List ℕ
circuit_word circuit.Closed = codes "closed"
circuit_word (circuit.Open since) = codes "open"
circuit_word (circuit.HalfOpen since serial) = codes "half-open"

-- a member that is a text
abbrev pub text_member : List ℕ → List ℕ → Members → Members
text_member name text rest = member name (string text) rest

-- a member that is a number
abbrev pub number_member : List ℕ → ℕ → Members → Members
number_member name n rest = member name (number (unsigned n)) rest

-- the object of a reply that is its name alone
abbrev pub named : List ℕ → Data
named name = object (text_member (codes "reply") name no_members)

-- the object of a reply of a name and a ticket
abbrev pub numbered : List ℕ → ℕ → Data
numbered name ticket = object (text_member (codes "reply") name (number_member (codes "ticket") ticket no_members))

-- the names of the kinds of events, in their order
abbrev pub kind_names : List (List ℕ)
kind_names =
    codes "BAD_REQUEST" ∷ codes "EXCEPTION_THROWN" ∷ codes "FAILURE" ∷ codes "FALLBACK_FAILURE" ∷ codes "FALLBACK_MISSING"
    ∷ codes "FALLBACK_REJECTION" ∷ codes "FALLBACK_SUCCESS" ∷ codes "RESPONSE_FROM_CACHE" ∷ codes "SEMAPHORE_REJECTED"
    ∷ codes "SHORT_CIRCUITED" ∷ codes "SUCCESS" ∷ codes "THREAD_POOL_REJECTED" ∷ codes "TIMEOUT" ∷ []

-- the counts in the same order
abbrev pub counts_listed : Counts → List ℕ
counts_listed c =
    c.bad_request ∷ c.exception_thrown ∷ c.failure ∷ c.fallback_failure ∷ c.fallback_missing
    ∷ c.fallback_rejection ∷ c.fallback_success ∷ c.response_from_cache ∷ c.semaphore_rejected
    ∷ c.short_circuited ∷ c.success ∷ c.thread_pool_rejected ∷ c.timeout ∷ []

-- a member for each count under its name, unless it is 0
abbrev pub counts_members : List (List ℕ) → List ℕ → Members
counts_members [] counts = no_members
counts_members (name ∷ names) [] = no_members
counts_members (name ∷ names) (n ∷ counts) = let rest = counts_members names counts in if n == 0 then rest else number_member name n rest

-- the object of the events of the rolling window
unfoldable pub events_data : Counts → Data
events_data counts = object (counts_members kind_names (counts_listed counts))

-- the object of the metrics of a group
abbrev pub metrics_data : Metrics → Data
metrics_data m = object (
    number_member (codes "busy") m.busy (text_member (codes "circuit") (circuit_word m.circuit) (number_member (codes "errors") m.errors (
    member (codes "events") (events_data m.counts) (number_member (codes "free") m.free (number_member (codes "percent") m.percent (
    number_member (codes "queued") m.queued (text_member (codes "reply") (codes "metrics") (number_member (codes "total") m.total no_members)))))))))

-- the object of the numbers of all events
abbrev pub totals_data : Counts → Data
totals_data counts = object (member (codes "events") (events_data counts) (text_member (codes "reply") (codes "totals") no_members))

-- the object of the value of a run
abbrev pub value_data : List ℕ → Data
value_data body = object (text_member (codes "body") body (text_member (codes "reply") (codes "value") no_members))

-- the object of the value of a fallback
abbrev pub fallback_value_data : Cause → List ℕ → Data
fallback_value_data cause body =
    object (text_member (codes "body") body (text_member (codes "cause") (cause_word cause) (text_member (codes "reply") (codes "fallback-value") no_members)))

-- the object of a request with no value
abbrev pub error_answer_data : Cause → FallbackFault → Data
error_answer_data cause fallback =
    object (text_member (codes "cause") (cause_word cause) (text_member (codes "fallback") (fallback_word fallback) (text_member (codes "reply") (codes "error") no_members)))

-- the object of the answer to a request
abbrev pub answer_data : Answer → Data
answer_data (answer.Value body) = value_data body
answer_data (answer.FallbackValue cause body) = fallback_value_data cause body
answer_data (answer.Error cause fallback) = error_answer_data cause fallback
answer_data answer.BadRequest = named (codes "bad-request")

-- the object of a ticket that needs a fallback
abbrev pub fallback_due_data : ℕ → Cause → Data
fallback_due_data ticket cause =
    object (text_member (codes "cause") (cause_word cause) (text_member (codes "reply") (codes "fallback-due") (number_member (codes "ticket") ticket no_members)))

-- the object of a run that a worker is to do; the name of its command stands in it where it is a further one
abbrev pub assigned_data : ℕ → Option (List ℕ) → List ℕ → Data
assigned_data ticket None arg =
    object (text_member (codes "arg") arg (text_member (codes "reply") (codes "assigned") (number_member (codes "ticket") ticket no_members)))
assigned_data ticket (Some name) arg =
    object (text_member (codes "arg") arg (text_member (codes "command") name (
    text_member (codes "reply") (codes "assigned") (number_member (codes "ticket") ticket no_members))))

-- the object of how many tickets timed out
abbrev pub expired_data : ℕ → Data
expired_data n = object (number_member (codes "count") n (text_member (codes "reply") (codes "expired") no_members))

-- the object of a fallback that the holder is to run
abbrev pub run_fallback_data : Cause → Data
run_fallback_data cause = object (text_member (codes "cause") (cause_word cause) (text_member (codes "reply") (codes "run-fallback") no_members))

-- the object of how many tickets are cached no longer
abbrev pub closed_data : ℕ → Data
closed_data n = object (number_member (codes "released") n (text_member (codes "reply") (codes "closed") no_members))

-- the object of a reply, its members in the order of their names. The name is that of the further command whose run is
-- assigned, if it is one; no other reply has it.
abbrev pub reply_data : Option (List ℕ) → Reply → Data
reply_data command (reply.Queued serial) = numbered (codes "queued") serial
reply_data command (reply.Inline serial) = numbered (codes "inline") serial
reply_data command (reply.FallbackDue serial cause) = fallback_due_data serial cause
reply_data command (reply.Joined serial) = numbered (codes "joined") serial
reply_data command reply.GroupFull = named (codes "group-full")
reply_data command (reply.Assigned serial n arg) = assigned_data serial command arg
reply_data command reply.Idle = named (codes "idle")
reply_data command reply.Done = named (codes "done")
reply_data command reply.Late = named (codes "late")
reply_data command reply.NotRunning = named (codes "not-running")
reply_data command (reply.Expired n) = expired_data n
reply_data command reply.Pending = named (codes "pending")
reply_data command (reply.RunFallback cause) = run_fallback_data cause
reply_data command (reply.Answered answer) = answer_data answer
reply_data command reply.NoTicket = named (codes "no-ticket")
reply_data command reply.NotInFallback = named (codes "not-in-fallback")
reply_data command (reply.Closed n) = closed_data n
reply_data command (reply.Metrics metrics) = metrics_data metrics
reply_data command (reply.Totals counts) = totals_data counts
reply_data command reply.Tuned = named (codes "tuned")
reply_data command reply.OutOfRange = named (codes "out-of-range")
reply_data command reply.Worn = named (codes "worn")
reply_data command reply.NoCommand = named (codes "no-command")
reply_data command reply.NoGroup = named (codes "no-group")

-- a line is the compact text and a line feed
abbrev pub json_line : Data → List ℕ
json_line d = compact_text d ++ 10 ∷ []

-- the line of a reply
unfoldable pub reply_line : Option (List ℕ) → Reply → List ℕ
reply_line command r = json_line (reply_data command r)
