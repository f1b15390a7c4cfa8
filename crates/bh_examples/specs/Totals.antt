-- Worked examples of the numbers of all events.
use Rattle.std.proofs.Common.{List, [], ◌∷◌, true}
use Rattle.bh_examples.specs.Words.{◌⇒◌, ◌▷◌, Line, IsAnswered, IsAnsweredBy, command_props, group_props, plain, unlimited, none, a, submit, start, finish, fail, collect, fallback, read, totals, tune, force_open_is, missing_end, short_circuited, failure, queued, fallback_due, assigned, done, run_fallback, in_all, tuned, no_command, circuit_closed, metrics, ok, x, y, z}

-- events stay counted once no window has them
abbrev pub counted_beyond_the_window : List Line
counted_beyond_the_window =
    totals a 0 ⇒ in_all none ∷
    submit a 0 x ⇒ queued 1 ∷
    start a 0 ⇒ assigned 1 x ∷
    fail a 1 1 ⇒ done ∷
    collect a 1 1 ⇒ run_fallback failure ∷
    fallback a 1 1 missing_end ⇒ done ∷
    read a 20000 ⇒ metrics circuit_closed 0 0 63 0 0 0 none ∷
    totals a 20000 ⇒ in_all (record none { exception_thrown = 1; failure = 1; fallback_missing = 1 }) ∷ []

abbrev pub CountedBeyondTheWindowA : Type 0
CountedBeyondTheWindowA = IsAnswered plain unlimited a counted_beyond_the_window

-- health that starts anew leaves them
abbrev pub counted_over_a_closing : List Line
counted_over_a_closing =
    submit a 0 x ⇒ queued 1 ∷
    start a 0 ⇒ assigned 1 x ∷
    fail a 0 1 ⇒ done ∷
    submit a 1 y ⇒ fallback_due 2 short_circuited ∷
    submit a 5001 z ⇒ queued 3 ∷
    start a 5001 ⇒ assigned 3 z ∷
    finish a 5002 3 ok ⇒ done ∷
    read a 5002 ⇒ metrics circuit_closed 0 0 61 0 0 0 (record none { failure = 1; short_circuited = 1; success = 1 }) ∷
    totals a 5002 ⇒ in_all (record none { failure = 1; short_circuited = 1; success = 1 }) ∷ []

abbrev pub CountedOverAClosingA : Type 0
CountedOverAClosingA = IsAnswered (record plain { volume = 1; health_ms = 0 }) unlimited a counted_over_a_closing

-- each command has its own
abbrev pub totals_are_the_commands : List Line
totals_are_the_commands =
    tune a 0 (force_open_is true) ▷ 1 ⇒ tuned ∷
    submit a 0 x ▷ 1 ⇒ fallback_due 1 short_circuited ∷
    totals a 0 ⇒ in_all none ∷
    totals a 0 ▷ 1 ⇒ in_all (record none { short_circuited = 1 }) ∷
    totals a 0 ▷ 2 ⇒ no_command ∷ []

abbrev pub TotalsAreTheCommandsA : Type 0
TotalsAreTheCommandsA = IsAnsweredBy (group_props plain (command_props plain ∷ [])) unlimited a totals_are_the_commands
