-- Worked examples of fallbacks.
use Rattle.std.proofs.Common.{List, [], ◌∷◌, true, false}
use Rattle.bh_examples.specs.Words.{◌⇒◌, Line, IsAnswered, plain, unlimited, none, a, submit, submit_cached, start, fail, collect, fallback, read, missing_end, short_circuited, failure, rejected, missing, disabled, queued, fallback_due, joined, assigned, done, pending, run_fallback, error, no_ticket, not_in_fallback, circuit_closed, metrics, k, x, y}

abbrev pub fallback_permits_reject : List Line
fallback_permits_reject =
    submit a 0 x ⇒ queued 1 ∷
    submit a 0 y ⇒ queued 2 ∷
    start a 0 ⇒ assigned 1 x ∷
    start a 0 ⇒ assigned 2 y ∷
    fail a 1 1 ⇒ done ∷
    fail a 1 2 ⇒ done ∷
    collect a 2 1 ⇒ run_fallback failure ∷
    collect a 2 2 ⇒ error failure rejected ∷
    collect a 2 1 ⇒ pending ∷
    read a 2 ⇒ metrics circuit_closed 0 0 63 2 2 100 (record none { exception_thrown = 1; failure = 2; fallback_rejection = 1 }) ∷
    fallback a 3 1 missing_end ⇒ done ∷
    collect a 3 1 ⇒ error failure missing ∷
    fallback a 3 1 missing_end ⇒ not_in_fallback ∷ []

abbrev pub FallbackPermitsRejectA : Type 0
FallbackPermitsRejectA = IsAnswered (record plain { fallback_permits = 1 }) unlimited a fallback_permits_reject

abbrev pub disabled_once : List Line
disabled_once =
    submit_cached a 0 x 7 k ⇒ queued 1 ∷
    submit_cached a 0 x 7 k ⇒ joined 1 ∷
    start a 0 ⇒ assigned 1 x ∷
    fail a 0 1 ⇒ done ∷
    collect a 0 1 ⇒ error failure disabled ∷
    collect a 0 1 ⇒ error failure disabled ∷
    collect a 0 1 ⇒ no_ticket ∷
    read a 0 ⇒ metrics circuit_closed 0 0 63 1 1 100 (record none { exception_thrown = 1; failure = 1; response_from_cache = 1 }) ∷ []

abbrev pub DisabledOnceA : Type 0
DisabledOnceA = IsAnswered (record plain { fallback_on = false }) unlimited a disabled_once

abbrev pub no_permits : List Line
no_permits =
    submit a 0 x ⇒ fallback_due 1 short_circuited ∷
    collect a 0 1 ⇒ error short_circuited rejected ∷
    read a 0 ⇒ metrics circuit_closed 0 0 1 0 0 0 (record none { exception_thrown = 1; fallback_rejection = 1; short_circuited = 1 }) ∷ []

abbrev pub NoPermitsA : Type 0
NoPermitsA = IsAnswered (record plain { fallback_permits = 0; slots = 1; core = 1; force_open = true }) unlimited a no_permits

abbrev pub permits_of_their_own : List Line
permits_of_their_own =
    submit a 0 x ⇒ queued 1 ∷
    submit a 0 y ⇒ queued 2 ∷
    start a 0 ⇒ assigned 1 x ∷
    start a 0 ⇒ assigned 2 y ∷
    fail a 0 1 ⇒ done ∷
    collect a 0 1 ⇒ run_fallback failure ∷
    fail a 0 2 ⇒ done ∷
    collect a 0 2 ⇒ error failure rejected ∷ []

abbrev pub PermitsOfTheirOwnA : Type 0
PermitsOfTheirOwnA = IsAnswered (record plain { fallback_permits = 1 }) unlimited a permits_of_their_own

abbrev pub missing_throws : List Line
missing_throws =
    submit a 0 x ⇒ fallback_due 1 short_circuited ∷
    collect a 0 1 ⇒ run_fallback short_circuited ∷
    fallback a 0 1 missing_end ⇒ done ∷
    read a 0 ⇒ metrics circuit_closed 0 0 63 0 0 0 (record none { exception_thrown = 1; fallback_missing = 1; short_circuited = 1 }) ∷
    collect a 0 1 ⇒ error short_circuited missing ∷ []

abbrev pub MissingThrowsA : Type 0
MissingThrowsA = IsAnswered (record plain { force_open = true }) unlimited a missing_throws
