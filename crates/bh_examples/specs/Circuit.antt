-- Worked examples of the circuit breaker.
use Rattle.std.proofs.Common.{List, [], ◌∷◌, true, false, Some}
use Rattle.bh_base.specs.declared.props.Strategy.TheVariants as strategy
use Rattle.bh_examples.specs.Words.{◌⇒◌, Line, IsAnswered, plain, unlimited, none, a, b, submit, start, finish, fail, fail_bad, expire, collect, fallback, read, success, short_circuited, thread_pool_rejected, semaphore_rejected, failure, disabled, queued, inline, fallback_due, group_full, assigned, done, late, expired, run_fallback, fallback_value, error, bad_request, circuit_closed, circuit_open, circuit_half_open, metrics, p, q, r, s, u, v, w, x, z, ok}

abbrev pub failures_open_one_circuit : List Line
failures_open_one_circuit =
    submit a 0 p ⇒ queued 1 ∷
    submit a 0 q ⇒ queued 2 ∷
    start a 1 ⇒ assigned 1 p ∷
    start a 1 ⇒ assigned 2 q ∷
    finish a 2 1 r ⇒ done ∷
    fail a 2 2 ⇒ done ∷
    submit a 3 s ⇒ fallback_due 3 short_circuited ∷
    read a 3 ⇒ metrics (circuit_open 3) 0 0 61 1 2 50 (record none { failure = 1; short_circuited = 1; success = 1 }) ∷
    submit b 0 p ⇒ queued 1 ∷
    start b 1 ⇒ assigned 1 p ∷
    fail b 2 1 ⇒ done ∷
    submit b 3 q ⇒ queued 2 ∷ []

abbrev pub FailuresOpenOneCircuitA : Type 0
FailuresOpenOneCircuitA = IsAnswered (record plain { volume = 2; percent = 50; health_ms = 0 }) unlimited a failures_open_one_circuit

abbrev pub FailuresOpenOneCircuitB : Type 0
FailuresOpenOneCircuitB = IsAnswered (record plain { volume = 2; percent = 50; health_ms = 0 }) unlimited b failures_open_one_circuit

abbrev pub sleep_window_admits_one_test : List Line
sleep_window_admits_one_test =
    submit a 0 p ⇒ queued 1 ∷
    start a 50 ⇒ assigned 1 p ∷
    fail a 50 1 ⇒ done ∷
    submit a 100 q ⇒ fallback_due 2 short_circuited ∷
    submit a 5099 r ⇒ fallback_due 3 short_circuited ∷
    submit a 5100 s ⇒ queued 4 ∷
    submit a 5100 u ⇒ fallback_due 5 short_circuited ∷
    read a 5100 ⇒ metrics (circuit_half_open 100 4) 0 1 59 1 1 100 (record none { failure = 1; short_circuited = 3 }) ∷
    start a 5101 ⇒ assigned 4 s ∷
    finish a 5102 4 ok ⇒ done ∷
    read a 5103 ⇒ metrics circuit_closed 0 0 59 0 0 0 (record none { failure = 1; short_circuited = 3; success = 1 }) ∷
    submit a 5104 v ⇒ queued 6 ∷ []

abbrev pub SleepWindowAdmitsOneTestA : Type 0
SleepWindowAdmitsOneTestA = IsAnswered (record plain { volume = 1; health_ms = 0 }) unlimited a sleep_window_admits_one_test

abbrev pub bad_test_keeps_its_opening : List Line
bad_test_keeps_its_opening =
    submit a 0 p ⇒ queued 1 ∷
    start a 0 ⇒ assigned 1 p ∷
    fail a 0 1 ⇒ done ∷
    submit a 100 q ⇒ fallback_due 2 short_circuited ∷
    submit a 5100 r ⇒ queued 3 ∷
    start a 5100 ⇒ assigned 3 r ∷
    fail_bad a 5200 3 ⇒ done ∷
    collect a 5200 3 ⇒ bad_request ∷
    submit a 5200 s ⇒ queued 4 ∷ []

abbrev pub BadTestKeepsItsOpeningA : Type 0
BadTestKeepsItsOpeningA = IsAnswered (record plain { volume = 1; health_ms = 0 }) unlimited a bad_test_keeps_its_opening

abbrev pub rejected_test_opens_anew : List Line
rejected_test_opens_anew =
    submit a 0 p ⇒ queued 1 ∷
    start a 0 ⇒ assigned 1 p ∷
    fail a 0 1 ⇒ done ∷
    submit a 100 q ⇒ fallback_due 2 short_circuited ∷
    submit a 5100 r ⇒ queued 3 ∷
    start a 5100 ⇒ assigned 3 r ∷
    fail_bad a 5200 3 ⇒ done ∷
    collect a 5200 3 ⇒ bad_request ∷
    submit a 5200 s ⇒ queued 4 ∷
    submit b 0 p ⇒ inline 1 ∷
    expire b 1000 ⇒ expired 1 ∷
    submit b 1000 q ⇒ fallback_due 2 short_circuited ∷
    submit b 6000 r ⇒ fallback_due 3 semaphore_rejected ∷
    finish b 6001 1 z ⇒ late ∷
    submit b 10999 s ⇒ fallback_due 4 short_circuited ∷
    submit b 11000 u ⇒ inline 5 ∷ []

abbrev pub RejectedTestOpensAnewA : Type 0
RejectedTestOpensAnewA = IsAnswered (record plain { volume = 1; health_ms = 0 }) unlimited a rejected_test_opens_anew

abbrev pub RejectedTestOpensAnewB : Type 0
RejectedTestOpensAnewB = IsAnswered (record plain { volume = 1; health_ms = 0; strategy = strategy.Semaphore; semaphore = 1 }) unlimited b rejected_test_opens_anew

abbrev pub forced_open_without_fallback : List Line
forced_open_without_fallback =
    submit a 0 x ⇒ fallback_due 1 short_circuited ∷
    collect a 0 1 ⇒ error short_circuited disabled ∷
    read a 0 ⇒ metrics circuit_closed 0 0 64 0 0 0 (record none { exception_thrown = 1; short_circuited = 1 }) ∷ []

abbrev pub ForcedOpenWithoutFallbackA : Type 0
ForcedOpenWithoutFallbackA = IsAnswered (record plain { force_open = true; fallback_on = false }) unlimited a forced_open_without_fallback

abbrev pub snapshot_lasts_its_interval : List Line
snapshot_lasts_its_interval =
    submit a 0 p ⇒ queued 1 ∷
    start a 0 ⇒ assigned 1 p ∷
    fail a 1 1 ⇒ done ∷
    submit a 499 q ⇒ queued 2 ∷
    submit a 500 r ⇒ fallback_due 3 short_circuited ∷ []

abbrev pub SnapshotLastsItsIntervalA : Type 0
SnapshotLastsItsIntervalA = IsAnswered (record plain { volume = 1 }) unlimited a snapshot_lasts_its_interval

abbrev pub empty_health_opens : List Line
empty_health_opens =
    submit a 0 x ⇒ fallback_due 1 short_circuited ∷
    read a 0 ⇒ metrics (circuit_open 0) 0 0 63 0 0 0 (record none { short_circuited = 1 }) ∷
    submit b 0 x ⇒ queued 1 ∷ []

abbrev pub EmptyHealthOpensA : Type 0
EmptyHealthOpensA = IsAnswered (record plain { volume = 0; percent = 0 }) unlimited a empty_health_opens

abbrev pub EmptyHealthOpensB : Type 0
EmptyHealthOpensB = IsAnswered (record plain { volume = 0; percent = 1 }) unlimited b empty_health_opens

abbrev pub test_rejected : List Line
test_rejected =
    submit a 0 p ⇒ queued 1 ∷
    start a 0 ⇒ assigned 1 p ∷
    fail a 0 1 ⇒ done ∷
    submit a 0 q ⇒ queued 2 ∷
    submit a 0 r ⇒ queued 3 ∷
    submit a 0 s ⇒ fallback_due 4 thread_pool_rejected ∷
    submit a 1 u ⇒ fallback_due 5 short_circuited ∷
    submit a 5001 v ⇒ fallback_due 6 thread_pool_rejected ∷
    read a 5001 ⇒ metrics (circuit_open 5001) 0 2 58 3 3 100 (record none { failure = 1; short_circuited = 1; thread_pool_rejected = 2 }) ∷
    submit a 10000 w ⇒ fallback_due 7 short_circuited ∷
    submit a 10001 x ⇒ fallback_due 8 thread_pool_rejected ∷
    start a 10001 ⇒ assigned 2 q ∷
    finish a 10001 2 z ⇒ done ∷
    submit a 15001 x ⇒ queued 9 ∷
    read a 15001 ⇒ metrics (circuit_half_open 10001 9) 0 2 55 1 2 50 (record none { short_circuited = 1; success = 1; thread_pool_rejected = 1 }) ∷ []

abbrev pub TestRejectedA : Type 0
TestRejectedA = IsAnswered (record plain { volume = 2; health_ms = 0; core = 1; max_queue = (Some 1); queue_threshold = 5 }) unlimited a test_rejected

abbrev pub full_asks_nothing : List Line
full_asks_nothing =
    submit a 0 p ⇒ queued 1 ∷
    start a 0 ⇒ assigned 1 p ∷
    fail a 0 1 ⇒ done ∷
    submit a 1 q ⇒ group_full ∷
    read a 1 ⇒ metrics circuit_closed 0 0 0 1 1 100 (record none { failure = 1 }) ∷
    collect a 1 1 ⇒ run_fallback failure ∷
    fallback a 1 1 (success z) ⇒ done ∷
    collect a 1 1 ⇒ fallback_value failure z ∷
    submit a 1 r ⇒ fallback_due 2 short_circuited ∷ []

abbrev pub FullAsksNothingA : Type 0
FullAsksNothingA = IsAnswered (record plain { volume = 1; health_ms = 0; slots = 1 }) unlimited a full_asks_nothing

abbrev pub closing_drops_snapshot : List Line
closing_drops_snapshot =
    submit a 0 p ⇒ queued 1 ∷
    start a 0 ⇒ assigned 1 p ∷
    fail a 0 1 ⇒ done ∷
    submit a 5999 p ⇒ queued 2 ∷
    submit a 6000 q ⇒ fallback_due 3 short_circuited ∷
    submit a 11000 r ⇒ queued 4 ∷
    start a 11000 ⇒ assigned 2 p ∷
    start a 11000 ⇒ assigned 4 r ∷
    finish a 11000 2 z ⇒ done ∷
    read a 11000 ⇒ metrics (circuit_half_open 6000 4) 1 0 60 0 1 0 (record none { short_circuited = 1; success = 1 }) ∷
    finish a 11000 4 z ⇒ done ∷
    submit a 11000 s ⇒ queued 5 ∷
    read a 11000 ⇒ metrics circuit_closed 0 1 59 0 0 0 (record none { short_circuited = 1; success = 2 }) ∷ []

abbrev pub ClosingDropsSnapshotA : Type 0
ClosingDropsSnapshotA = IsAnswered (record plain { volume = 1; health_ms = 6000 }) unlimited a closing_drops_snapshot

abbrev pub forced : List Line
forced =
    submit a 0 x ⇒ fallback_due 1 short_circuited ∷
    submit b 0 x ⇒ queued 1 ∷ []

abbrev pub ForcedA : Type 0
ForcedA = IsAnswered (record plain { force_open = true; force_closed = true }) unlimited a forced

abbrev pub ForcedB : Type 0
ForcedB = IsAnswered (record plain { force_open = true; force_closed = true; circuit_on = false }) unlimited b forced

abbrev pub forced_closed : List Line
forced_closed =
    submit a 0 x ⇒ queued 1 ∷
    read a 0 ⇒ metrics circuit_closed 0 1 63 0 0 0 none ∷ []

abbrev pub ForcedClosedA : Type 0
ForcedClosedA = IsAnswered (record plain { force_closed = true; volume = 0; percent = 0 }) unlimited a forced_closed
