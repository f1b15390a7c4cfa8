-- What the requests of a command came to, in numbers.
use Rattle.std.specs.Prelude.{ℕ, ◌+◌, Bool, true, false, not, ◌==◌, min, if◌then◌else◌}
use Rattle.bh_base.specs.declared.circuit.CircuitState.{CircuitState}
use Rattle.bh_base.specs.declared.circuit.CircuitState.TheVariants as state
use Rattle.bh_look.specs.declared.kind.Kind.{Kind}
use Rattle.bh_look.specs.declared.kind.Kind.TheVariants as kind
use Rattle.bh_look.specs.declared.tally.Tally.{Tally}

-- the sum, or the most that is counted
abbrev pub sum_up_to : ℕ → ℕ → ℕ
sum_up_to a b = min (a + b) 18_446_744_073_709_551_615

-- nothing so far
abbrev pub no_tally : Tally
no_tally = record { admitted = 0; joined = 0; group_full = 0; worn = 0; short_circuited = 0; rejected = 0; timeouts = 0; failures = 0; late = 0; values = 0; fallback_values = 0; errors = 0; bad_requests = 0; trips = 0; open_ms = 0; half_open_ms = 0 }

-- one request more that came to this
abbrev pub with_kind : Kind → Tally → Tally
with_kind kind.Admitted t = record t { admitted = sum_up_to t.admitted 1 }
with_kind kind.Joined t = record t { joined = sum_up_to t.joined 1 }
with_kind kind.GroupFull t = record t { group_full = sum_up_to t.group_full 1 }
with_kind kind.Worn t = record t { worn = sum_up_to t.worn 1 }
with_kind kind.ShortCircuited t = record t { short_circuited = sum_up_to t.short_circuited 1 }
with_kind kind.Rejected t = record t { rejected = sum_up_to t.rejected 1 }
with_kind kind.Failure t = record t { failures = sum_up_to t.failures 1 }
with_kind kind.Late t = record t { late = sum_up_to t.late 1 }
with_kind kind.Value t = record t { values = sum_up_to t.values 1 }
with_kind kind.FallbackValue t = record t { fallback_values = sum_up_to t.fallback_values 1 }
with_kind kind.Error t = record t { errors = sum_up_to t.errors 1 }
with_kind kind.BadRequest t = record t { bad_requests = sum_up_to t.bad_requests 1 }

-- so many more that timed out
abbrev pub with_timeouts : ℕ → Tally → Tally
with_timeouts number t = record t { timeouts = sum_up_to t.timeouts number }

-- whether the circuit opened at the moment, where it was in this state
abbrev pub opens_at : CircuitState → ℕ → Bool
opens_at state.Closed moment = true
opens_at (state.Open earlier) moment = not (earlier == moment)
opens_at (state.HalfOpen earlier test) moment = not (earlier == moment)

-- whether the circuit opened anew: it is open, and was not since the same moment
abbrev pub opens : CircuitState → CircuitState → Bool
opens before (state.Open moment) = opens_at before moment
opens before _ = false

-- a step in which the circuit went from one state to the other
abbrev pub with_trip : CircuitState → CircuitState → Tally → Tally
with_trip before after t = record t { trips = (if opens before after then sum_up_to t.trips 1 else t.trips) }

-- so many milliseconds more in the state
abbrev pub with_time : CircuitState → ℕ → Tally → Tally
with_time state.Closed ms t = t
with_time (state.Open opened) ms t = record t { open_ms = sum_up_to t.open_ms ms }
with_time (state.HalfOpen opened test) ms t = record t { half_open_ms = sum_up_to t.half_open_ms ms }

-- with what another tally has
abbrev pub added : Tally → Tally → Tally
added t u = record { admitted = sum_up_to t.admitted u.admitted; joined = sum_up_to t.joined u.joined; group_full = sum_up_to t.group_full u.group_full; worn = sum_up_to t.worn u.worn; short_circuited = sum_up_to t.short_circuited u.short_circuited; rejected = sum_up_to t.rejected u.rejected; timeouts = sum_up_to t.timeouts u.timeouts; failures = sum_up_to t.failures u.failures; late = sum_up_to t.late u.late; values = sum_up_to t.values u.values; fallback_values = sum_up_to t.fallback_values u.fallback_values; errors = sum_up_to t.errors u.errors; bad_requests = sum_up_to t.bad_requests u.bad_requests; trips = sum_up_to t.trips u.trips; open_ms = sum_up_to t.open_ms u.open_ms; half_open_ms = sum_up_to t.half_open_ms u.half_open_ms }

-- how many requests there were: those that were let in or joined, those that were refused, and those that were not heard
abbrev pub requests : Tally → ℕ
requests t = sum_up_to (sum_up_to (sum_up_to t.admitted t.joined) (sum_up_to t.short_circuited t.rejected)) (sum_up_to t.group_full t.worn)
