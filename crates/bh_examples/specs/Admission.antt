-- Worked examples of admission: slots, pools, queues and permits.
use Rattle.std.proofs.Common.{List, [], ◌∷◌, false, Some}
use Rattle.bh_base.specs.declared.props.Strategy.TheVariants as strategy
use Rattle.bh_examples.specs.Words.{◌⇒◌, Line, IsAnswered, plain, unlimited, none, a, b, submit, submit_cached, start, finish, fail, expire, collect, fallback, close, read, success, thread_pool_rejected, semaphore_rejected, failure, disabled, queued, inline, fallback_due, joined, group_full, assigned, idle, done, expired, run_fallback, value, fallback_value, error, no_ticket, closed, worn, circuit_closed, metrics, k, r, w, x, y, z, one, two}

abbrev pub two_groups_one_ticket_each : List Line
two_groups_one_ticket_each =
    submit a 0 x ⇒ queued 1 ∷
    submit b 0 y ⇒ queued 1 ∷
    start a 1 ⇒ assigned 1 x ∷
    start b 1 ⇒ assigned 1 y ∷
    finish a 2 1 one ⇒ done ∷
    finish b 2 1 two ⇒ done ∷
    collect a 3 1 ⇒ value one ∷
    collect b 3 1 ⇒ value two ∷ []

abbrev pub TwoGroupsOneTicketEachA : Type 0
TwoGroupsOneTicketEachA = IsAnswered plain unlimited a two_groups_one_ticket_each

abbrev pub TwoGroupsOneTicketEachB : Type 0
TwoGroupsOneTicketEachB = IsAnswered plain unlimited b two_groups_one_ticket_each

abbrev pub first_path : List Line
first_path =
    submit a 0 x ⇒ queued 1 ∷
    start a 0 ⇒ assigned 1 x ∷
    finish a 0 1 r ⇒ done ∷
    read a 9999 ⇒ metrics circuit_closed 0 0 9 0 1 0 (record none { success = 1 }) ∷
    read a 10000 ⇒ metrics circuit_closed 0 0 9 0 0 0 none ∷
    collect a 10000 1 ⇒ value r ∷
    collect a 10000 1 ⇒ no_ticket ∷
    submit a 10000 x ⇒ queued 2 ∷
    submit a 10000 x ⇒ queued 3 ∷
    submit a 10000 x ⇒ queued 4 ∷
    submit a 10000 x ⇒ queued 5 ∷
    submit a 10000 x ⇒ queued 6 ∷
    submit a 10000 x ⇒ queued 7 ∷
    submit a 10000 x ⇒ queued 8 ∷
    submit a 10000 x ⇒ queued 9 ∷
    submit a 10000 x ⇒ queued 10 ∷
    submit a 10000 x ⇒ queued 11 ∷
    submit a 10000 x ⇒ group_full ∷ []

abbrev pub FirstPathA : Type 0
FirstPathA = IsAnswered (record plain { slots = 10; circuit_on = false; cache_on = false; timeout_on = false }) 1024 a first_path

abbrev pub pool_without_queue_rejects : List Line
pool_without_queue_rejects =
    submit a 0 x ⇒ queued 1 ∷
    submit a 0 y ⇒ fallback_due 2 thread_pool_rejected ∷
    collect a 1 2 ⇒ run_fallback thread_pool_rejected ∷
    fallback a 1 2 (success z) ⇒ done ∷
    collect a 2 2 ⇒ fallback_value thread_pool_rejected z ∷
    collect a 2 2 ⇒ no_ticket ∷
    read a 2 ⇒ metrics circuit_closed 0 1 63 1 1 100 (record none { fallback_success = 1; thread_pool_rejected = 1 }) ∷ []

abbrev pub PoolWithoutQueueRejectsA : Type 0
PoolWithoutQueueRejectsA = IsAnswered (record plain { core = 1 }) unlimited a pool_without_queue_rejects

abbrev pub threshold_bounds_the_queue : List Line
threshold_bounds_the_queue =
    submit a 0 x ⇒ queued 1 ∷
    submit a 0 y ⇒ queued 2 ∷
    submit a 0 z ⇒ fallback_due 3 thread_pool_rejected ∷
    start a 1 ⇒ assigned 1 x ∷
    start a 1 ⇒ idle ∷
    finish a 2 1 r ⇒ done ∷
    start a 3 ⇒ assigned 2 y ∷
    submit a 3 w ⇒ queued 4 ∷ []

abbrev pub ThresholdBoundsTheQueueA : Type 0
ThresholdBoundsTheQueueA = IsAnswered (record plain { core = 1; max_queue = (Some 5); queue_threshold = 1 }) unlimited a threshold_bounds_the_queue

abbrev pub permits_and_disabled_fallback : List Line
permits_and_disabled_fallback =
    submit a 0 x ⇒ queued 1 ∷
    start a 0 ⇒ assigned 1 x ∷
    fail a 1 1 ⇒ done ∷
    collect a 2 1 ⇒ error failure disabled ∷
    read a 2 ⇒ metrics circuit_closed 0 0 64 1 1 100 (record none { exception_thrown = 1; failure = 1 }) ∷
    submit b 0 x ⇒ inline 1 ∷
    submit b 0 y ⇒ fallback_due 2 semaphore_rejected ∷
    finish b 1 1 r ⇒ done ∷
    submit b 1 z ⇒ inline 3 ∷ []

abbrev pub PermitsAndDisabledFallbackA : Type 0
PermitsAndDisabledFallbackA = IsAnswered (record plain { fallback_on = false }) unlimited a permits_and_disabled_fallback

abbrev pub PermitsAndDisabledFallbackB : Type 0
PermitsAndDisabledFallbackB = IsAnswered (record plain { fallback_on = false; strategy = strategy.Semaphore; semaphore = 1 }) unlimited b permits_and_disabled_fallback

abbrev pub full_group_leaves_another_alone : List Line
full_group_leaves_another_alone =
    submit_cached a 0 x 1 k ⇒ queued 1 ∷
    submit a 0 y ⇒ group_full ∷
    submit b 0 y ⇒ queued 1 ∷
    start a 0 ⇒ assigned 1 x ∷
    finish a 1 1 r ⇒ done ∷
    collect a 1 1 ⇒ value r ∷
    submit a 2 y ⇒ group_full ∷
    submit_cached a 2 x 1 k ⇒ joined 1 ∷
    collect a 2 1 ⇒ value r ∷
    close a 3 1 ⇒ closed 1 ∷
    submit a 3 y ⇒ queued 2 ∷ []

abbrev pub FullGroupLeavesAnotherAloneA : Type 0
FullGroupLeavesAnotherAloneA = IsAnswered (record plain { slots = 1 }) unlimited a full_group_leaves_another_alone

abbrev pub FullGroupLeavesAnotherAloneB : Type 0
FullGroupLeavesAnotherAloneB = IsAnswered plain unlimited b full_group_leaves_another_alone

abbrev pub full_is_a_step : List Line
full_is_a_step =
    submit a 0 x ⇒ queued 1 ∷
    submit a 5 y ⇒ group_full ∷
    read a 0 ⇒ worn ∷ []

abbrev pub FullIsAStepA : Type 0
FullIsAStepA = IsAnswered (record plain { slots = 1 }) 2 a full_is_a_step

abbrev pub full_moves_time : List Line
full_moves_time =
    submit a 0 x ⇒ queued 1 ∷
    submit a 1000 y ⇒ group_full ∷
    expire a 0 ⇒ expired 1 ∷ []

abbrev pub FullMovesTimeA : Type 0
FullMovesTimeA = IsAnswered (record plain { slots = 1 }) unlimited a full_moves_time

abbrev pub queue_lengths : List Line
queue_lengths =
    submit a 0 x ⇒ queued 1 ∷
    submit a 0 y ⇒ fallback_due 2 thread_pool_rejected ∷
    submit b 0 x ⇒ queued 1 ∷
    submit b 0 x ⇒ queued 2 ∷
    submit b 0 x ⇒ queued 3 ∷
    submit b 0 x ⇒ fallback_due 4 thread_pool_rejected ∷ []

abbrev pub QueueLengthsA : Type 0
QueueLengthsA = IsAnswered (record plain { core = 1; max_queue = (Some 3); queue_threshold = 0 }) unlimited a queue_lengths

abbrev pub QueueLengthsB : Type 0
QueueLengthsB = IsAnswered (record plain { core = 1; max_queue = (Some 2); queue_threshold = 5 }) unlimited b queue_lengths

abbrev pub worn_at_the_step_limit : List Line
worn_at_the_step_limit =
    submit a 0 x ⇒ queued 1 ∷
    start a 0 ⇒ assigned 1 x ∷
    finish a 0 1 r ⇒ done ∷
    collect a 0 1 ⇒ worn ∷
    submit b 0 y ⇒ queued 1 ∷ []

abbrev pub WornAtTheStepLimitA : Type 0
WornAtTheStepLimitA = IsAnswered plain 3 a worn_at_the_step_limit

abbrev pub WornAtTheStepLimitB : Type 0
WornAtTheStepLimitB = IsAnswered plain 3 b worn_at_the_step_limit
