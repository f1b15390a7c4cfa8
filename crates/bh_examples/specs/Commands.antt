-- Worked examples of groups with several commands, and of those that lack the command of a step.
use Rattle.std.proofs.Common.{List, [], ◌∷◌}
use Rattle.bh_base.specs.declared.props.Strategy.TheVariants as strategy
use Rattle.bh_examples.specs.Words.{◌⇒◌, ◌▷◌, Line, IsAnswered, IsAnsweredBy, Settings, command_props, group_props, plain, unlimited, none, a, submit, submit_cached, start, fail, expire, close, read, queued, inline, joined, fallback_due, assigned, assigned_of, done, expired, closed, short_circuited, thread_pool_rejected, semaphore_rejected, circuit_open, circuit_closed, metrics, no_command, worn, k, p, q, r, s, t, x, y}

-- each command trips by itself
abbrev pub trips_at_one_failure : Settings
trips_at_one_failure = record plain { core = 1; volume = 1; health_ms = 0 }

abbrev pub circuits_are_the_commands : List Line
circuits_are_the_commands =
    submit a 0 p ▷ 1 ⇒ queued 1 ∷
    start a 0 ⇒ assigned_of 1 1 p ∷
    fail a 1 1 ⇒ done ∷
    submit a 2 r ▷ 1 ⇒ fallback_due 2 short_circuited ∷
    submit a 2 q ⇒ queued 3 ∷
    submit a 2 s ▷ 2 ⇒ fallback_due 4 thread_pool_rejected ∷
    read a 3 ▷ 1 ⇒ metrics (circuit_open 2) 0 0 60 1 1 100 (record none { failure = 1; short_circuited = 1 }) ∷
    read a 3 ⇒ metrics circuit_closed 0 1 60 0 0 0 none ∷
    submit a 3 t ▷ 3 ⇒ no_command ∷ []

abbrev pub CircuitsAreTheCommandsA : Type 0
CircuitsAreTheCommandsA = IsAnsweredBy (group_props trips_at_one_failure (command_props trips_at_one_failure ∷ command_props trips_at_one_failure ∷ [])) unlimited a circuits_are_the_commands

-- runs by the caller take no worker of the pool
abbrev pub pool_is_of_the_thread_commands : List Line
pool_is_of_the_thread_commands =
    submit a 0 p ▷ 1 ⇒ inline 1 ∷
    submit a 0 q ⇒ queued 2 ∷
    start a 0 ⇒ assigned 2 q ∷
    submit a 0 r ▷ 1 ⇒ fallback_due 3 semaphore_rejected ∷
    submit_cached a 1 x 7 k ⇒ fallback_due 4 thread_pool_rejected ∷
    submit_cached a 1 x 7 k ▷ 1 ⇒ fallback_due 5 semaphore_rejected ∷
    submit_cached a 1 x 7 k ▷ 1 ⇒ joined 5 ∷
    close a 2 7 ⇒ closed 2 ∷ []

abbrev pub PoolIsOfTheThreadCommandsA : Type 0
PoolIsOfTheThreadCommandsA = IsAnsweredBy (group_props (record plain { core = 1 }) (command_props (record plain { strategy = strategy.Semaphore; semaphore = 1 }) ∷ [])) unlimited a pool_is_of_the_thread_commands

-- each command's tickets time out by its own time
abbrev pub timeouts_are_the_commands : List Line
timeouts_are_the_commands =
    submit a 0 p ⇒ queued 1 ∷
    submit a 0 q ▷ 1 ⇒ queued 2 ∷
    submit a 0 r ▷ 1 ⇒ queued 3 ∷
    expire a 400 ⇒ expired 2 ∷
    read a 400 ⇒ metrics circuit_closed 0 1 61 0 0 0 none ∷
    read a 400 ▷ 1 ⇒ metrics circuit_closed 0 0 61 2 2 100 (record none { timeout = 2 }) ∷ []

abbrev pub TimeoutsAreTheCommandsA : Type 0
TimeoutsAreTheCommandsA = IsAnsweredBy (group_props plain (command_props (record plain { timeout_ms = 300 }) ∷ [])) unlimited a timeouts_are_the_commands

-- it takes no step, whether the group is worn or not
abbrev pub unknown_commands_take_no_step : List Line
unknown_commands_take_no_step =
    submit a 9 x ▷ 1 ⇒ no_command ∷
    read a 9 ▷ 255 ⇒ no_command ∷
    submit a 0 x ⇒ queued 1 ∷
    read a 0 ▷ 1 ⇒ no_command ∷
    submit a 0 y ⇒ worn ∷ []

-- in a group that may do one step
abbrev pub UnknownCommandsTakeNoStepA : Type 0
UnknownCommandsTakeNoStepA = IsAnswered plain 1 a unknown_commands_take_no_step
