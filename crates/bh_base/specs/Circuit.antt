-- The circuit of a command: what it says of a submit, and what a test's ending does to it.
use Rattle.std.specs.Prelude.{ℕ, ◌-◌, ◌≤◌, Bool, false, ◌&&◌, not, ◌==◌, nat_le, Option, Some, None, if◌then◌else◌}
use Rattle.bh_base.specs.declared.props.CommandProps.{CommandProps}
use Rattle.bh_base.specs.declared.circuit.CircuitState.{CircuitState}
use Rattle.bh_base.specs.declared.circuit.CircuitState.TheVariants as state
use Rattle.bh_base.specs.declared.circuit.Snapshot.{Snapshot}
use Rattle.bh_base.specs.declared.event.Health.{Health}
use Rattle.bh_base.specs.declared.circuit.Admit.{Admit}
use Rattle.bh_base.specs.declared.circuit.Admit.TheVariants as admit
use Rattle.bh_base.specs.declared.circuit.End.{End}
use Rattle.bh_base.specs.declared.circuit.End.TheVariants as end
use Rattle.bh_base.specs.History.{percent}

-- a command's circuit breaker: its state, and the health snapshot that it last took, if any since it closed
pub record Circuit : Type 0 where
  pub state : CircuitState
  pub snapshot : Option Snapshot

-- a new circuit breaker, and one after a test call's success: closed, and without a snapshot
abbrev pub new_circuit : Circuit
new_circuit = record { state = state.Closed; snapshot = None }

-- asked: what it says, and what it is then
pub record Asked : Type 0 where
  pub says : Admit
  pub circuit : Circuit

-- an answer to a submit that changes neither the circuit's state nor its snapshot
abbrev pub unchanged : Admit → Circuit → Asked
unchanged says c = record { says = says; circuit = c }

-- the snapshot that is kept, or one that is taken now
abbrev pub snapshot_at : CommandProps → ℕ → Health → Option Snapshot → Snapshot
snapshot_at props now health None = record { taken = now; health = health }
snapshot_at props now health (Some s) =
    if nat_le props.health_ms (now - s.taken) then record { taken = now; health = health } else s

-- whether the request volume and the error percentage both reach their thresholds, which opens the circuit
abbrev pub is_unhealthy : CommandProps → Health → Bool
is_unhealthy props h = nat_le props.volume h.total && nat_le props.percent (percent h)

-- a closed circuit opens on an unhealthy snapshot and short-circuits the submit itself, else it lets it pass
abbrev pub asked_closed : CommandProps → ℕ → Snapshot → Asked
asked_closed props now s =
    if is_unhealthy props s.health
    then record { says = admit.Short; circuit = record { state = state.Open now; snapshot = Some s } }
    else record { says = admit.Pass; circuit = record { state = state.Closed; snapshot = Some s } }

-- a closed circuit goes by health; an open one lets a single test call pass once the sleep window is over
abbrev pub asked_at : CircuitState → CommandProps → ℕ → Health → ℕ → Circuit → Asked
asked_at state.Closed props now health serial c = asked_closed props now (snapshot_at props now health c.snapshot)
asked_at (state.Open opened) props now health serial c =
    if nat_le props.sleep_ms (now - opened)
    then record { says = admit.Test; circuit = record c { state = state.HalfOpen opened serial } }
    else unchanged admit.Short c
asked_at (state.HalfOpen opened test) props now health serial c = unchanged admit.Short c

-- asked for the ticket of the serial, the first case that holds
abbrev pub asked : CommandProps → ℕ → Health → ℕ → Circuit → Asked
asked props now health serial c =
    if not props.circuit_on then unchanged admit.Pass c else
    if props.force_open then unchanged admit.Short c else
    if props.force_closed then unchanged admit.Pass c else
    asked_at c.state props now health serial c

-- whether the ticket of the serial is the test call of a half-open circuit
abbrev pub is_test : ℕ → CircuitState → Bool
is_test serial (state.HalfOpen opened test) = serial == test
is_test serial _ = false

-- a test call's success closes the circuit, an error opens it anew, a bad request at the old opening moment
abbrev pub test_ended : End → ℕ → ℕ → Circuit → Circuit
test_ended end.Success opened now c = new_circuit
test_ended end.Error opened now c = record c { state = state.Open now }
test_ended end.BadRequest opened now c = record c { state = state.Open opened }

-- the circuit after a ticket's end: only the end of its test call changes it, while it is half-open
abbrev pub ended_at : CircuitState → ℕ → End → ℕ → Circuit → Circuit
ended_at (state.HalfOpen opened test) serial end now c = if serial == test then test_ended end opened now c else c
ended_at _ serial end now c = c

-- the ticket of the serial has ended: this moves the circuit only where it is the test
abbrev pub ended : ℕ → End → ℕ → Circuit → Circuit
ended serial end now c = ended_at c.state serial end now c

-- whether a ticket's end closes the circuit, as the test call's success does; health counts from there on
abbrev pub closes : ℕ → End → CircuitState → Bool
closes serial end.Success s = is_test serial s
closes serial _ s = false

-- the moment at which an open or half-open circuit opened
abbrev pub opened_at : CircuitState → ℕ
opened_at state.Closed = 0
opened_at (state.Open opened) = opened
opened_at (state.HalfOpen opened test) = opened

-- the moment at which the snapshot, where there is one, was taken
abbrev pub taken_at : Option Snapshot → ℕ
taken_at None = 0
taken_at (Some s) = s.taken

-- no moment that the circuit keeps is later than now
pub record AreBefore (now : ℕ) (c : Circuit) : Type 0 where
  pub opened : opened_at c.state ≤ now
  pub taken : taken_at c.snapshot ≤ now
