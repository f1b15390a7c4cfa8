-- The fields of a reply as C is told it. Fields that a reply does not name stay as they were.
use Rattle.std.specs.Prelude.{ℕ, List, length, min, take}
use Rattle.bh_base.specs.declared.circuit.CircuitState.{CircuitState}
use Rattle.bh_base.specs.declared.circuit.CircuitState.TheVariants as circuit
use Rattle.bh_base.specs.declared.event.Counts.{Counts}
use Rattle.bh_base.specs.declared.reply.Cause.{Cause}
use Rattle.bh_base.specs.declared.reply.Cause.TheVariants as cause
use Rattle.bh_base.specs.declared.reply.FallbackFault.{FallbackFault}
use Rattle.bh_base.specs.declared.reply.FallbackFault.TheVariants as fault
use Rattle.bh_base.specs.declared.reply.Answer.{Answer}
use Rattle.bh_base.specs.declared.reply.Answer.TheVariants as answer
use Rattle.bh_base.specs.declared.reply.Metrics.{Metrics}
use Rattle.bh_base.specs.declared.reply.Reply.{Reply}
use Rattle.bh_base.specs.declared.reply.Reply.TheVariants as reply
use Rattle.bh_c.specs.declared.kind.ReplyKind.{ReplyKind}
use Rattle.bh_c.specs.declared.kind.ReplyKind.TheVariants as kinds
use Rattle.bh_c.specs.declared.told.ToldReply.{ToldReply}
use Rattle.bh_c.specs.declared.told.ToldMetrics.{ToldMetrics}
use Rattle.bh_c.specs.Buffers.{front_replaced}
use Rattle.bh_c.specs.Kinds.{kind_number}

-- the number of each cause of a fallback
abbrev pub cause_number : Cause → ℕ
cause_number cause.ShortCircuited = 1
cause_number cause.PoolRejected = 2
cause_number cause.SemaphoreRejected = 3
cause_number cause.Failure = 4
cause_number cause.Timeout = 5

-- the number of each reason why no fallback gave a value
abbrev pub fallback_number : FallbackFault → ℕ
fallback_number fault.Failed = 1
fallback_number fault.Rejected = 2
fallback_number fault.Missing = 3
fallback_number fault.Disabled = 4

-- the number of each state of a circuit
abbrev pub circuit_number : CircuitState → ℕ
circuit_number circuit.Closed = 1
circuit_number (circuit.Open since) = 2
circuit_number (circuit.HalfOpen since serial) = 3

-- the metrics, field by field
abbrev pub metrics_shown : Metrics → ToldMetrics
metrics_shown m = record {
  circuit = circuit_number m.circuit;
  errors = m.errors;
  total = m.total;
  percent = m.percent;
  busy = m.busy;
  queued = m.queued;
  free = m.free;
  bad_request = m.counts.bad_request;
  exception_thrown = m.counts.exception_thrown;
  failure = m.counts.failure;
  fallback_failure = m.counts.fallback_failure;
  fallback_missing = m.counts.fallback_missing;
  fallback_rejection = m.counts.fallback_rejection;
  fallback_success = m.counts.fallback_success;
  response_from_cache = m.counts.response_from_cache;
  semaphore_rejected = m.counts.semaphore_rejected;
  short_circuited = m.counts.short_circuited;
  success = m.counts.success;
  thread_pool_rejected = m.counts.thread_pool_rejected;
  timeout = m.counts.timeout;
}

-- the metrics with these counts; what else they tell stays
abbrev pub counts_shown : Counts → ToldMetrics → ToldMetrics
counts_shown c told = record told {
  bad_request = c.bad_request;
  exception_thrown = c.exception_thrown;
  failure = c.failure;
  fallback_failure = c.fallback_failure;
  fallback_missing = c.fallback_missing;
  fallback_rejection = c.fallback_rejection;
  fallback_success = c.fallback_success;
  response_from_cache = c.response_from_cache;
  semaphore_rejected = c.semaphore_rejected;
  short_circuited = c.short_circuited;
  success = c.success;
  thread_pool_rejected = c.thread_pool_rejected;
  timeout = c.timeout;
}

-- the text, of which there is room for 256 bytes, and its length
abbrev pub body_shown : List ℕ → ToldReply → ToldReply
body_shown text told =
    let count = min (length text) 256 in record told { text_length = count; text = front_replaced (take count text) told.text }

-- a kind
abbrev pub kind_shown : ReplyKind → ToldReply → ToldReply
kind_shown kind told = record told { kind = kind_number kind }

-- a kind and a number
abbrev pub number_shown : ReplyKind → ℕ → ToldReply → ToldReply
number_shown kind number told = record told { kind = kind_number kind; number = number }

-- the ticket of a run and its command
abbrev pub assigned_shown : ℕ → ℕ → ToldReply → ToldReply
assigned_shown serial command told = record told { kind = kind_number kinds.Assigned; number = serial; command = command }

-- the answer to a request
abbrev pub answer_shown : Answer → ToldReply → ToldReply
answer_shown (answer.Value body) told = body_shown body (kind_shown kinds.Value told)
answer_shown (answer.FallbackValue why body) told = body_shown body (record told { kind = kind_number kinds.FallbackValue; cause = cause_number why })
answer_shown (answer.Error why fallback) told = record told { kind = kind_number kinds.Error; cause = cause_number why; fallback = fallback_number fallback }
answer_shown answer.BadRequest told = kind_shown kinds.BadRequest told

-- the reply
abbrev pub shown : Reply → ToldReply → ToldReply
shown (reply.Queued serial) told = number_shown kinds.Queued serial told
shown (reply.Inline serial) told = number_shown kinds.Inline serial told
shown (reply.FallbackDue serial why) told = record told { kind = kind_number kinds.FallbackDue; number = serial; cause = cause_number why }
shown (reply.Joined serial) told = number_shown kinds.Joined serial told
shown reply.GroupFull told = kind_shown kinds.GroupFull told
shown (reply.Assigned serial command arg) told = body_shown arg (assigned_shown serial command told)
shown reply.Idle told = kind_shown kinds.Idle told
shown reply.Done told = kind_shown kinds.Done told
shown reply.Late told = kind_shown kinds.Late told
shown reply.NotRunning told = kind_shown kinds.NotRunning told
shown (reply.Expired count) told = number_shown kinds.Expired count told
shown reply.Pending told = kind_shown kinds.Pending told
shown (reply.RunFallback why) told = record told { kind = kind_number kinds.RunFallback; cause = cause_number why }
shown (reply.Answered answer) told = answer_shown answer told
shown reply.NoTicket told = kind_shown kinds.NoTicket told
shown reply.NotInFallback told = kind_shown kinds.NotInFallback told
shown (reply.Closed count) told = number_shown kinds.Closed count told
shown (reply.Metrics metrics) told = record told { kind = kind_number kinds.Metrics; metrics = metrics_shown metrics }
shown (reply.Totals counts) told = record told { kind = kind_number kinds.Totals; metrics = counts_shown counts told.metrics }
shown reply.Tuned told = kind_shown kinds.Tuned told
shown reply.OutOfRange told = kind_shown kinds.OutOfRange told
shown reply.Worn told = kind_shown kinds.Worn told
shown reply.NoGroup told = kind_shown kinds.NoGroup told
shown reply.NoCommand told = kind_shown kinds.NoCommand told
