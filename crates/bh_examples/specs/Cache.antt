-- Worked examples of the request cache.
use Rattle.std.proofs.Common.{List, [], ◌∷◌, false}
use Rattle.bh_examples.specs.Words.{◌⇒◌, Line, IsAnswered, plain, unlimited, none, a, submit, submit_cached, start, finish, fail, expire, collect, fallback, close, read, success, failure_end, short_circuited, failure, timeout, failed, queued, fallback_due, joined, assigned, done, expired, pending, run_fallback, value, fallback_value, error, no_ticket, closed, circuit_closed, circuit_open, metrics, k, r, x, y, z}

abbrev pub cached_name_shares_a_run : List Line
cached_name_shares_a_run =
    submit_cached a 0 x 7 k ⇒ queued 1 ∷
    submit_cached a 0 x 7 k ⇒ joined 1 ∷
    submit_cached a 0 x 8 k ⇒ queued 2 ∷
    start a 1 ⇒ assigned 1 x ∷
    finish a 2 1 r ⇒ done ∷
    collect a 3 1 ⇒ value r ∷
    collect a 3 1 ⇒ value r ∷
    collect a 3 1 ⇒ no_ticket ∷
    submit_cached a 4 x 7 k ⇒ joined 1 ∷
    collect a 4 1 ⇒ value r ∷
    close a 5 7 ⇒ closed 1 ∷
    close a 5 7 ⇒ closed 0 ∷
    submit_cached a 6 x 7 k ⇒ queued 3 ∷
    read a 6 ⇒ metrics circuit_closed 0 2 62 0 1 0 (record none { response_from_cache = 2; success = 1 }) ∷ []

abbrev pub CachedNameSharesARunA : Type 0
CachedNameSharesARunA = IsAnswered plain unlimited a cached_name_shares_a_run

abbrev pub joined_fallback : List Line
joined_fallback =
    submit_cached a 0 x 7 k ⇒ queued 1 ∷
    start a 0 ⇒ assigned 1 x ∷
    fail a 0 1 ⇒ done ∷
    submit_cached a 1 x 7 k ⇒ joined 1 ∷
    read a 1 ⇒ metrics circuit_closed 0 0 63 1 1 100 (record none { failure = 1; response_from_cache = 1 }) ∷
    submit a 1 y ⇒ fallback_due 2 short_circuited ∷
    submit_cached a 1 x 7 k ⇒ joined 1 ∷
    collect a 1 1 ⇒ run_fallback failure ∷
    collect a 1 1 ⇒ pending ∷
    fallback a 1 1 (success z) ⇒ done ∷
    collect a 1 1 ⇒ fallback_value failure z ∷
    collect a 1 1 ⇒ fallback_value failure z ∷
    collect a 1 1 ⇒ fallback_value failure z ∷
    collect a 1 1 ⇒ no_ticket ∷
    submit_cached a 2 x 7 k ⇒ joined 1 ∷
    close a 2 7 ⇒ closed 1 ∷
    collect a 2 1 ⇒ fallback_value failure z ∷
    collect a 2 1 ⇒ no_ticket ∷
    read a 2 ⇒ metrics (circuit_open 1) 0 0 63 1 1 100 (record none { failure = 1; fallback_success = 1; response_from_cache = 3; short_circuited = 1 }) ∷ []

abbrev pub JoinedFallbackA : Type 0
JoinedFallbackA = IsAnswered (record plain { volume = 1; health_ms = 0 }) unlimited a joined_fallback

abbrev pub cache_off : List Line
cache_off =
    submit_cached a 0 x 7 k ⇒ queued 1 ∷
    submit_cached a 0 x 7 k ⇒ queued 2 ∷
    close a 0 7 ⇒ closed 0 ∷
    expire a 999999 ⇒ expired 0 ∷
    read a 999999 ⇒ metrics circuit_closed 0 2 62 0 0 0 none ∷ []

abbrev pub CacheOffA : Type 0
CacheOffA = IsAnswered (record plain { cache_on = false; timeout_on = false }) unlimited a cache_off

abbrev pub joined_while_queued : List Line
joined_while_queued =
    submit_cached a 0 x 7 k ⇒ queued 1 ∷
    submit_cached a 999 x 7 k ⇒ joined 1 ∷
    expire a 1000 ⇒ expired 1 ∷
    collect a 1000 1 ⇒ run_fallback timeout ∷
    collect a 1000 1 ⇒ pending ∷
    fallback a 1000 1 failure_end ⇒ done ∷
    collect a 1000 1 ⇒ error timeout failed ∷
    collect a 1000 1 ⇒ error timeout failed ∷
    collect a 1000 1 ⇒ no_ticket ∷ []

abbrev pub JoinedWhileQueuedA : Type 0
JoinedWhileQueuedA = IsAnswered plain unlimited a joined_while_queued

abbrev pub other_key : List Line
other_key =
    submit_cached a 0 x 7 k ⇒ queued 1 ∷
    submit_cached a 0 x 7 z ⇒ queued 2 ∷
    submit_cached a 0 y 7 k ⇒ joined 1 ∷ []

abbrev pub OtherKeyA : Type 0
OtherKeyA = IsAnswered plain unlimited a other_key

abbrev pub closed_while_held : List Line
closed_while_held =
    submit_cached a 0 x 7 k ⇒ queued 1 ∷
    close a 0 7 ⇒ closed 1 ∷
    submit_cached a 0 x 7 k ⇒ queued 2 ∷
    close a 0 7 ⇒ closed 1 ∷
    collect a 0 1 ⇒ pending ∷ []

abbrev pub ClosedWhileHeldA : Type 0
ClosedWhileHeldA = IsAnswered plain unlimited a closed_while_held
