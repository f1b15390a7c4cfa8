-- Which replies a step of each operation can get.
use Rattle.std.specs.Prelude.{Bool, true, false, ◌||◌}
use Rattle.bh_base.specs.declared.step.Op.{Op}
use Rattle.bh_base.specs.declared.step.Op.TheVariants as op
use Rattle.bh_base.specs.declared.reply.Reply.{Reply}
use Rattle.bh_base.specs.declared.reply.Reply.TheVariants as reply

-- refused, with nothing changed
abbrev pub is_refusal : Reply → Bool
is_refusal reply.Worn = true
is_refusal reply.NoGroup = true
is_refusal reply.NoCommand = true
is_refusal _ = false

-- the replies to Submit: the request has a ticket, a new one or one that it joined, or the group is full
abbrev pub answers_submit : Reply → Bool
answers_submit (reply.Queued serial) = true
answers_submit (reply.Inline serial) = true
answers_submit (reply.FallbackDue serial cause) = true
answers_submit (reply.Joined serial) = true
answers_submit reply.GroupFull = true
answers_submit _ = false

-- the replies to Start: a run for the worker, or none
abbrev pub answers_start : Reply → Bool
answers_start (reply.Assigned serial command arg) = true
answers_start reply.Idle = true
answers_start _ = false

-- to Finish and to Fail
abbrev pub answers_end : Reply → Bool
answers_end reply.Done = true
answers_end reply.Late = true
answers_end reply.NotRunning = true
answers_end _ = false

-- the replies to Expire: how many tickets timed out
abbrev pub answers_expire : Reply → Bool
answers_expire (reply.Expired number) = true
answers_expire _ = false

-- the replies to Collect: the answer, a fallback to run, no answer yet, or no such ticket
abbrev pub answers_collect : Reply → Bool
answers_collect reply.Pending = true
answers_collect (reply.RunFallback cause) = true
answers_collect (reply.Answered answer) = true
answers_collect reply.NoTicket = true
answers_collect _ = false

-- the replies to FallbackDone: the end was taken, or no fallback of the ticket was under way
abbrev pub answers_fallback_done : Reply → Bool
answers_fallback_done reply.Done = true
answers_fallback_done reply.NotInFallback = true
answers_fallback_done _ = false

-- the replies to Close: how many tickets are cached no longer
abbrev pub answers_close : Reply → Bool
answers_close (reply.Closed number) = true
answers_close _ = false

-- the replies to Read: the metrics of the command
abbrev pub answers_read : Reply → Bool
answers_read (reply.Metrics metrics) = true
answers_read _ = false

-- the replies to Totals: the numbers of the command's events
abbrev pub answers_totals : Reply → Bool
answers_totals (reply.Totals counts) = true
answers_totals _ = false

-- the replies to Tune: the property has the value, or it stays, since the value is out of its range
abbrev pub answers_tune : Reply → Bool
answers_tune reply.Tuned = true
answers_tune reply.OutOfRange = true
answers_tune _ = false

-- the reply is one of those that the operation's own case gives
abbrev pub is_answer_to : Op → Reply → Bool
is_answer_to (op.Submit request) r = answers_submit r
is_answer_to op.Start r = answers_start r
is_answer_to (op.Finish serial body) r = answers_end r
is_answer_to (op.Fail serial bad) r = answers_end r
is_answer_to op.Expire r = answers_expire r
is_answer_to (op.Collect serial) r = answers_collect r
is_answer_to (op.FallbackDone serial end) r = answers_fallback_done r
is_answer_to (op.Close context) r = answers_close r
is_answer_to (op.Read command) r = answers_read r
is_answer_to (op.Totals command) r = answers_totals r
is_answer_to (op.Tune command tuning) r = answers_tune r

-- the reply is a refusal or one of the operation's own
abbrev pub can_reply : Op → Reply → Bool
can_reply o r = is_refusal r || is_answer_to o r
