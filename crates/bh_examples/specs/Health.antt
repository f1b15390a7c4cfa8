-- Worked examples of rolling counts and health.
use Rattle.std.proofs.Common.{List, [], ◌∷◌}
use Rattle.bh_base.specs.declared.props.Strategy.TheVariants as strategy
use Rattle.bh_examples.specs.Words.{◌⇒◌, Line, IsAnswered, plain, unlimited, none, a, b, submit, start, finish, fail, fail_bad, expire, collect, read, short_circuited, semaphore_rejected, queued, inline, fallback_due, assigned, done, expired, bad_request, circuit_closed, metrics, r, x, y, z}

abbrev pub counts_leave_with_their_bucket : List Line
counts_leave_with_their_bucket =
    submit a 0 x ⇒ queued 1 ∷
    submit a 0 y ⇒ queued 2 ∷
    submit a 0 z ⇒ queued 3 ∷
    start a 0 ⇒ assigned 1 x ∷
    start a 0 ⇒ assigned 2 y ∷
    start a 0 ⇒ assigned 3 z ∷
    finish a 0 1 r ⇒ done ∷
    finish a 999 2 r ⇒ done ∷
    finish a 5500 3 r ⇒ done ∷
    read a 9999 ⇒ metrics circuit_closed 0 0 61 0 3 0 (record none { success = 3 }) ∷
    read a 10000 ⇒ metrics circuit_closed 0 0 61 0 1 0 (record none { success = 1 }) ∷
    read a 1010000 ⇒ metrics circuit_closed 0 0 61 0 0 0 none ∷ []

abbrev pub CountsLeaveWithTheirBucketA : Type 0
CountsLeaveWithTheirBucketA = IsAnswered plain unlimited a counts_leave_with_their_bucket

abbrev pub percent_floor : List Line
percent_floor =
    submit a 0 x ⇒ queued 1 ∷
    submit a 0 x ⇒ queued 2 ∷
    submit a 0 x ⇒ queued 3 ∷
    start a 0 ⇒ assigned 1 x ∷
    start a 0 ⇒ assigned 2 x ∷
    start a 0 ⇒ assigned 3 x ∷
    fail a 0 1 ⇒ done ∷
    fail a 0 2 ⇒ done ∷
    finish a 0 3 r ⇒ done ∷
    submit a 0 x ⇒ queued 4 ∷
    submit b 0 x ⇒ queued 1 ∷
    submit b 0 x ⇒ queued 2 ∷
    submit b 0 x ⇒ queued 3 ∷
    start b 0 ⇒ assigned 1 x ∷
    start b 0 ⇒ assigned 2 x ∷
    start b 0 ⇒ assigned 3 x ∷
    fail b 0 1 ⇒ done ∷
    fail b 0 2 ⇒ done ∷
    finish b 0 3 r ⇒ done ∷
    submit b 0 x ⇒ fallback_due 4 short_circuited ∷ []

abbrev pub PercentFloorA : Type 0
PercentFloorA = IsAnswered (record plain { volume = 3; health_ms = 0; percent = 67 }) unlimited a percent_floor

abbrev pub PercentFloorB : Type 0
PercentFloorB = IsAnswered (record plain { volume = 3; health_ms = 0; percent = 66 }) unlimited b percent_floor

abbrev pub bad_is_no_health : List Line
bad_is_no_health =
    submit a 0 x ⇒ queued 1 ∷
    start a 0 ⇒ assigned 1 x ∷
    fail_bad a 0 1 ⇒ done ∷
    read a 0 ⇒ metrics circuit_closed 0 0 63 0 0 0 (record none { bad_request = 1 }) ∷
    collect a 0 1 ⇒ bad_request ∷ []

abbrev pub BadIsNoHealthA : Type 0
BadIsNoHealthA = IsAnswered plain unlimited a bad_is_no_health

abbrev pub semaphore_health : List Line
semaphore_health =
    submit a 0 x ⇒ inline 1 ∷
    submit a 0 x ⇒ fallback_due 2 semaphore_rejected ∷
    read a 0 ⇒ metrics circuit_closed 1 0 62 1 1 100 (record none { semaphore_rejected = 1 }) ∷ []

abbrev pub SemaphoreHealthA : Type 0
SemaphoreHealthA = IsAnswered (record plain { strategy = strategy.Semaphore; semaphore = 1 }) unlimited a semaphore_health

abbrev pub latest_moment_stays : List Line
latest_moment_stays =
    submit a 18446744073709551615 x ⇒ queued 1 ∷
    expire a 18446744073709551615 ⇒ expired 0 ∷
    submit a 5 y ⇒ queued 2 ∷
    read a 18446744073709551615 ⇒ metrics circuit_closed 0 2 62 0 0 0 none ∷ []

abbrev pub LatestMomentStaysA : Type 0
LatestMomentStaysA = IsAnswered plain unlimited a latest_moment_stays

abbrev pub each_group_has_its_moments : List Line
each_group_has_its_moments =
    submit a 5000 x ⇒ queued 1 ∷
    submit b 100 y ⇒ queued 1 ∷
    submit a 4000 z ⇒ queued 2 ∷
    expire a 5999 ⇒ expired 0 ∷
    expire a 6000 ⇒ expired 2 ∷
    expire b 1099 ⇒ expired 0 ∷
    expire b 1100 ⇒ expired 1 ∷ []

abbrev pub EachGroupHasItsMomentsA : Type 0
EachGroupHasItsMomentsA = IsAnswered plain unlimited a each_group_has_its_moments

abbrev pub EachGroupHasItsMomentsB : Type 0
EachGroupHasItsMomentsB = IsAnswered plain unlimited b each_group_has_its_moments
