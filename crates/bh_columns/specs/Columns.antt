-- What is kept of a command in the moments of a column.
use Rattle.std.specs.Prelude.{ℕ, ◌-◌, ◌*◌, Bool, not, ◌&&◌, ◌==◌, nat_lt, max, min, Option, Some, None, if◌then◌else◌}
use Rattle.bh_base.specs.declared.circuit.CircuitState.{CircuitState}
use Rattle.bh_base.specs.declared.circuit.CircuitState.TheVariants as state
use Rattle.bh_look.specs.declared.tally.Tally.{Tally}
use Rattle.bh_look.specs.Tallies.{added, no_tally, sum_up_to, with_time}
use Rattle.bh_columns.specs.declared.column.Column.{Column}
use Rattle.bh_columns.specs.declared.column.Standing.{Standing}
use Rattle.bh_columns.specs.declared.column.Usage.{Usage}
use Rattle.bh_columns.specs.declared.stay.Stay.{Stay}

-- the product, or the most that is counted
abbrev pub product_up_to : ℕ → ℕ → ℕ
product_up_to a b = min (a * b) 18_446_744_073_709_551_615

-- nothing was busy or waited
abbrev pub no_usage : Usage
no_usage = record { busy_ms = 0; queued_ms = 0; most = 0 }

-- nothing so far
abbrev pub no_column : Column
no_column = record { tally = no_tally; closed_ms = 0; began = None; first_trip = None; last_trip = None; last_close = None; usage = no_usage }

-- the one that is earlier, the first where both are of one moment
abbrev pub earlier : Option Standing → Option Standing → Option Standing
earlier None b = b
earlier (Some a) None = Some a
earlier (Some a) (Some b) = Some (if nat_lt b.moment a.moment then b else a)

-- the lesser of two moments, where there is one
abbrev pub least : Option ℕ → Option ℕ → Option ℕ
least None b = b
least (Some a) None = Some a
least (Some a) (Some b) = Some (min a b)

-- the greater of two moments, where there is one
abbrev pub greatest : Option ℕ → Option ℕ → Option ℕ
greatest None b = b
greatest (Some a) None = Some a
greatest (Some a) (Some b) = Some (max a b)

-- both, over the milliseconds of both
abbrev pub usage_added : Usage → Usage → Usage
usage_added u w = record { busy_ms = sum_up_to u.busy_ms w.busy_ms; queued_ms = sum_up_to u.queued_ms w.queued_ms; most = max u.most w.most }

-- two columns as one: all adds up but the most at once, the first state, and the moments of the first trip, the last one and the last close
abbrev pub joined : Column → Column → Column
joined c d = record {
  tally = added c.tally d.tally;
  closed_ms = sum_up_to c.closed_ms d.closed_ms;
  began = earlier c.began d.began;
  first_trip = least c.first_trip d.first_trip;
  last_trip = greatest c.last_trip d.last_trip;
  last_close = greatest c.last_close d.last_close;
  usage = usage_added c.usage d.usage;
}

-- how many milliseconds a stay has
abbrev pub ms_of : Stay → ℕ
ms_of s = s.until - s.since

-- so many milliseconds more, where the circuit was closed
abbrev pub closed_with : CircuitState → ℕ → ℕ → ℕ
closed_with state.Closed ms t = sum_up_to t ms
closed_with (state.Open opened) ms t = t
closed_with (state.HalfOpen opened test) ms t = t

-- the usage of a stay
abbrev pub usage_of : Stay → Usage
usage_of s = record { busy_ms = product_up_to s.busy (ms_of s); queued_ms = product_up_to s.queued (ms_of s); most = sum_up_to s.busy s.queued }

-- with the milliseconds from one moment on and before another, in which the circuit was in the state; where there is none,
-- nothing is added
abbrev pub with_time_from : ℕ → ℕ → CircuitState → Column → Column
with_time_from since until circuit c = if nat_lt since until then record c {
  tally = with_time circuit (until - since) c.tally;
  closed_ms = closed_with circuit (until - since) c.closed_ms;
  began = earlier c.began (Some (record { moment = since; circuit = circuit }));
} else c

-- with the usage of a stay; what lasts no millisecond is lost
abbrev pub with_usage : Stay → Column → Column
with_usage s c = if nat_lt s.since s.until then record c { usage = usage_added c.usage (usage_of s) } else c

-- with the time of a stay
abbrev pub with_stay : Stay → Column → Column
with_stay s c = with_usage s (with_time_from s.since s.until s.circuit c)

-- what a step told, without the time that passed before it
abbrev pub told_of : Tally → Tally
told_of t = record t { open_ms = 0; half_open_ms = 0 }

-- whether no request was let in, joined or refused
abbrev pub is_no_request : Tally → Bool
is_no_request t = t.admitted == 0 && t.joined == 0 && t.group_full == 0 && t.worn == 0 && t.short_circuited == 0 && t.rejected == 0

-- whether no run ended badly
abbrev pub is_no_end : Tally → Bool
is_no_end t = t.timeouts == 0 && t.failures == 0 && t.late == 0

-- whether no caller got an answer
abbrev pub is_no_answer : Tally → Bool
is_no_answer t = t.values == 0 && t.fallback_values == 0 && t.errors == 0 && t.bad_requests == 0

-- whether nothing is counted
abbrev pub is_no_tally : Tally → Bool
is_no_tally t = is_no_request t && is_no_end t && is_no_answer t && t.trips == 0 && t.open_ms == 0 && t.half_open_ms == 0

-- with what a step told at the moment, and whether it closed the circuit
abbrev pub with_told_at : ℕ → Tally → Bool → Column → Column
with_told_at moment told closes c = if is_no_tally told && not closes then c else record c {
  tally = added c.tally told;
  first_trip = (if told.trips == 0 then c.first_trip else least c.first_trip (Some moment));
  last_trip = (if told.trips == 0 then c.last_trip else greatest c.last_trip (Some moment));
  last_close = (if closes then greatest c.last_close (Some moment) else c.last_close);
}

-- all but the usage
abbrev pub bare : Column → Column
bare c = record c { usage = no_usage }
