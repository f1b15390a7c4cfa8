-- Worked examples of timeouts and late runs.
use Rattle.std.proofs.Common.{List, [], ◌∷◌, false, Some}
use Rattle.bh_base.specs.declared.props.Strategy.TheVariants as strategy
use Rattle.bh_examples.specs.Words.{◌⇒◌, Line, IsAnswered, plain, unlimited, none, a, submit, start, finish, fail, fail_bad, expire, collect, fallback, read, failure_end, short_circuited, thread_pool_rejected, timeout, failed, disabled, queued, inline, fallback_due, assigned, idle, done, late, not_running, expired, run_fallback, error, no_ticket, circuit_closed, circuit_open, metrics, p, q, r, s, u, x, y, z}

abbrev pub timed_out_run_stays_busy : List Line
timed_out_run_stays_busy =
    submit a 0 x ⇒ queued 1 ∷
    start a 0 ⇒ assigned 1 x ∷
    expire a 999 ⇒ expired 0 ∷
    expire a 1000 ⇒ expired 1 ∷
    submit a 1001 y ⇒ fallback_due 2 thread_pool_rejected ∷
    finish a 1002 1 r ⇒ late ∷
    submit a 1003 z ⇒ queued 3 ∷
    collect a 1003 1 ⇒ run_fallback timeout ∷
    finish a 1004 1 r ⇒ not_running ∷
    read a 1004 ⇒ metrics circuit_closed 0 1 61 2 2 100 (record none { thread_pool_rejected = 1; timeout = 1 }) ∷ []

abbrev pub TimedOutRunStaysBusyA : Type 0
TimedOutRunStaysBusyA = IsAnswered (record plain { core = 1 }) unlimited a timed_out_run_stays_busy

abbrev pub queued_tickets_time_out : List Line
queued_tickets_time_out =
    submit a 0 x ⇒ queued 1 ∷
    submit a 500 y ⇒ queued 2 ∷
    submit a 600 z ⇒ queued 3 ∷
    expire a 1000 ⇒ expired 1 ∷
    start a 1001 ⇒ assigned 2 y ∷
    finish a 1002 2 r ⇒ done ∷
    expire a 1600 ⇒ expired 1 ∷
    start a 1601 ⇒ idle ∷
    collect a 1601 1 ⇒ run_fallback timeout ∷
    fallback a 1602 1 failure_end ⇒ done ∷
    collect a 1602 1 ⇒ error timeout failed ∷
    read a 1602 ⇒ metrics circuit_closed 0 0 62 2 3 66 (record none { exception_thrown = 1; fallback_failure = 1; success = 1; timeout = 2 }) ∷ []

abbrev pub QueuedTicketsTimeOutA : Type 0
QueuedTicketsTimeOutA = IsAnswered (record plain { core = 1; max_queue = (Some 5) }) unlimited a queued_tickets_time_out

abbrev pub timed_out_test_opens_anew : List Line
timed_out_test_opens_anew =
    submit a 0 p ⇒ queued 1 ∷
    start a 0 ⇒ assigned 1 p ∷
    fail a 0 1 ⇒ done ∷
    submit a 1 q ⇒ fallback_due 2 short_circuited ∷
    submit a 5001 r ⇒ queued 3 ∷
    expire a 6001 ⇒ expired 1 ∷
    start a 6001 ⇒ idle ∷
    submit a 11000 s ⇒ fallback_due 4 short_circuited ∷
    submit a 11001 u ⇒ queued 5 ∷ []

abbrev pub TimedOutTestOpensAnewA : Type 0
TimedOutTestOpensAnewA = IsAnswered (record plain { volume = 1; health_ms = 0 }) unlimited a timed_out_test_opens_anew

abbrev pub late_test : List Line
late_test =
    submit a 0 p ⇒ inline 1 ∷
    start a 0 ⇒ idle ∷
    fail a 0 1 ⇒ done ∷
    submit a 1 q ⇒ fallback_due 2 short_circuited ∷
    submit a 5001 r ⇒ inline 3 ∷
    expire a 6001 ⇒ expired 1 ∷
    finish a 6002 3 z ⇒ late ∷
    read a 6002 ⇒ metrics (circuit_open 6001) 0 0 61 2 2 100 (record none { failure = 1; short_circuited = 1; timeout = 1 }) ∷
    submit a 11000 s ⇒ fallback_due 4 short_circuited ∷
    submit a 11001 s ⇒ inline 5 ∷
    fail_bad a 11002 3 ⇒ not_running ∷
    finish a 11002 5 z ⇒ done ∷
    read a 11002 ⇒ metrics circuit_closed 0 0 59 0 0 0 (record none { short_circuited = 1; success = 1; timeout = 1 }) ∷ []

abbrev pub LateTestA : Type 0
LateTestA = IsAnswered (record plain { volume = 1; health_ms = 0; strategy = strategy.Semaphore; semaphore = 2 }) unlimited a late_test

abbrev pub busy_alone_keeps : List Line
busy_alone_keeps =
    submit a 0 x ⇒ queued 1 ∷
    start a 0 ⇒ assigned 1 x ∷
    expire a 1000 ⇒ expired 1 ∷
    collect a 1000 1 ⇒ error timeout disabled ∷
    collect a 1000 1 ⇒ no_ticket ∷
    read a 1000 ⇒ metrics circuit_closed 1 0 63 1 1 100 (record none { exception_thrown = 1; timeout = 1 }) ∷
    fail_bad a 1000 1 ⇒ late ∷
    read a 1000 ⇒ metrics circuit_closed 0 0 64 1 1 100 (record none { exception_thrown = 1; timeout = 1 }) ∷ []

abbrev pub BusyAloneKeepsA : Type 0
BusyAloneKeepsA = IsAnswered (record plain { fallback_on = false; core = 1 }) unlimited a busy_alone_keeps
