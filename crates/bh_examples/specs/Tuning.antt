-- Worked examples of properties that change while a group runs.
use Rattle.std.proofs.Common.{List, [], ◌∷◌, Some, true, false}
use Rattle.bh_base.specs.declared.props.Strategy.TheVariants as strategy
use Rattle.bh_examples.specs.Words.{◌⇒◌, ◌▷◌, Line, IsAnswered, IsAnsweredBy, command_props, group_props, plain, unlimited, none, a, submit, submit_cached, start, finish, fail, expire, collect, close, read, tune, timeout_is, permits_are, circuit_is, sleep_is, force_open_is, cache_is, core_is, short_circuited, semaphore_rejected, timeout, queued, inline, fallback_due, joined, assigned, idle, done, late, expired, run_fallback, value, closed, tuned, out_of_range, worn, no_command, circuit_closed, circuit_half_open, metrics, k, x, y, z, ok}

-- forced open, a circuit breaker lets nobody pass, and let go, it is the one that it was; runs under way go on
abbrev pub forced_open_and_back : List Line
forced_open_and_back =
    submit a 0 x ⇒ queued 1 ∷
    tune a 1 (force_open_is true) ⇒ tuned ∷
    submit a 1 y ⇒ fallback_due 2 short_circuited ∷
    start a 1 ⇒ assigned 1 x ∷
    finish a 2 1 ok ⇒ done ∷
    tune a 2 (force_open_is false) ⇒ tuned ∷
    submit a 3 z ⇒ queued 3 ∷
    collect a 3 1 ⇒ value ok ∷
    read a 3 ⇒ metrics circuit_closed 0 1 62 0 1 0 (record none { short_circuited = 1; success = 1 }) ∷ []

abbrev pub ForcedOpenAndBackA : Type 0
ForcedOpenAndBackA = IsAnswered plain unlimited a forced_open_and_back

-- with fewer permits than are taken nobody loses one, and nobody gets one until fewer are taken
abbrev pub fewer_permits_than_taken : List Line
fewer_permits_than_taken =
    submit a 0 x ⇒ inline 1 ∷
    submit a 0 y ⇒ inline 2 ∷
    tune a 1 (permits_are 1) ⇒ tuned ∷
    submit a 1 z ⇒ fallback_due 3 semaphore_rejected ∷
    finish a 2 1 ok ⇒ done ∷
    submit a 2 z ⇒ fallback_due 4 semaphore_rejected ∷
    finish a 3 2 ok ⇒ done ∷
    submit a 3 z ⇒ inline 5 ∷ []

abbrev pub FewerPermitsThanTakenA : Type 0
FewerPermitsThanTakenA = IsAnswered (record plain { strategy = strategy.Semaphore; semaphore = 2 }) unlimited a fewer_permits_than_taken

-- another timeout holds for the runs under way, from their submits
abbrev pub timeout_of_runs_under_way : List Line
timeout_of_runs_under_way =
    submit a 0 x ⇒ queued 1 ∷
    start a 0 ⇒ assigned 1 x ∷
    tune a 500 (timeout_is 2000) ⇒ tuned ∷
    expire a 1500 ⇒ expired 0 ∷
    tune a 1500 (timeout_is 100) ⇒ tuned ∷
    expire a 1500 ⇒ expired 1 ∷
    finish a 1600 1 ok ⇒ late ∷
    collect a 1600 1 ⇒ run_fallback timeout ∷ []

abbrev pub TimeoutOfRunsUnderWayA : Type 0
TimeoutOfRunsUnderWayA = IsAnswered plain unlimited a timeout_of_runs_under_way

-- a smaller pool ends no run, and starts none until it has a worker free; a larger one starts what is queued
abbrev pub smaller_pool_and_back : List Line
smaller_pool_and_back =
    submit a 0 x ⇒ queued 1 ∷
    submit a 0 y ⇒ queued 2 ∷
    submit a 0 z ⇒ queued 3 ∷
    start a 0 ⇒ assigned 1 x ∷
    start a 0 ⇒ assigned 2 y ∷
    tune a 1 (core_is 1) ⇒ tuned ∷
    finish a 1 1 ok ⇒ done ∷
    start a 1 ⇒ idle ∷
    tune a 1 (core_is 2) ⇒ tuned ∷
    start a 1 ⇒ assigned 3 z ∷ []

abbrev pub SmallerPoolAndBackA : Type 0
SmallerPoolAndBackA = IsAnswered (record plain { core = 2; max_queue = Some 5 }) unlimited a smaller_pool_and_back

-- a value out of its range changes nothing, and is a step as every other
abbrev pub out_of_its_range : List Line
out_of_its_range =
    tune a 0 (core_is 0) ⇒ out_of_range ∷
    tune a 0 (core_is 65) ⇒ out_of_range ∷
    tune a 0 (timeout_is 4_294_967_296) ⇒ out_of_range ∷
    tune a 0 (core_is 64) ⇒ tuned ∷
    tune a 0 (core_is 64) ⇒ worn ∷
    tune a 0 (core_is 64) ▷ 1 ⇒ no_command ∷ []

abbrev pub OutOfItsRangeA : Type 0
OutOfItsRangeA = IsAnswered plain 4 a out_of_its_range

-- a property is that of one command
abbrev pub tunes_are_the_commands : List Line
tunes_are_the_commands =
    tune a 0 (force_open_is true) ▷ 1 ⇒ tuned ∷
    submit a 0 x ⇒ queued 1 ∷
    submit a 0 x ▷ 1 ⇒ fallback_due 2 short_circuited ∷ []

abbrev pub TunesAreTheCommandsA : Type 0
TunesAreTheCommandsA = IsAnsweredBy (group_props plain (command_props plain ∷ [])) unlimited a tunes_are_the_commands

-- switched off and on again, a circuit breaker is open since it opened; a shorter sleep window holds at once
abbrev pub open_circuit_off_and_on : List Line
open_circuit_off_and_on =
    submit a 0 x ⇒ queued 1 ∷
    start a 0 ⇒ assigned 1 x ∷
    fail a 0 1 ⇒ done ∷
    submit a 1 y ⇒ fallback_due 2 short_circuited ∷
    tune a 2 (circuit_is false) ⇒ tuned ∷
    submit a 2 y ⇒ queued 3 ∷
    tune a 3 (circuit_is true) ⇒ tuned ∷
    submit a 3 z ⇒ fallback_due 4 short_circuited ∷
    tune a 4 (sleep_is 3) ⇒ tuned ∷
    submit a 4 z ⇒ queued 5 ∷
    read a 4 ⇒ metrics (circuit_half_open 1 5) 0 2 59 1 1 100 (record none { failure = 1; short_circuited = 2 }) ∷ []

abbrev pub OpenCircuitOffAndOnA : Type 0
OpenCircuitOffAndOnA = IsAnswered (record plain { volume = 1; health_ms = 0 }) unlimited a open_circuit_off_and_on

-- while the cache is off nobody joins and nothing is cached; what was cached is so still, until its context is closed
abbrev pub cache_off_and_on : List Line
cache_off_and_on =
    submit_cached a 0 x 7 k ⇒ queued 1 ∷
    tune a 0 (cache_is false) ⇒ tuned ∷
    submit_cached a 0 y 7 k ⇒ queued 2 ∷
    tune a 0 (cache_is true) ⇒ tuned ∷
    submit_cached a 0 z 7 k ⇒ joined 1 ∷
    close a 0 7 ⇒ closed 1 ∷ []

abbrev pub CacheOffAndOnA : Type 0
CacheOffAndOnA = IsAnswered plain unlimited a cache_off_and_on
