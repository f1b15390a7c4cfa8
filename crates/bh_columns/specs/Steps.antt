-- What a step did to the columns of its group's commands.
use Rattle.std.specs.Prelude.{ℕ, Bool, true, false, not, ◌&&◌, ◌==◌, max, min, if◌then◌else◌}
use Rattle.bh_base.specs.Machine.{circuit_of}
use Rattle.bh_base.specs.Runs.{View}
use Rattle.bh_base.specs.Seen.{view_after}
use Rattle.bh_base.specs.declared.circuit.CircuitState.{CircuitState}
use Rattle.bh_base.specs.declared.circuit.CircuitState.TheVariants as state
use Rattle.bh_base.specs.declared.step.Op.{Op}
use Rattle.bh_look.specs.declared.tally.Tally.{Tally}
use Rattle.bh_look.specs.Steps.{tally_with}
use Rattle.bh_look.specs.Tallies.{no_tally}
use Rattle.bh_columns.specs.Columns.{told_of}
use Rattle.bh_columns.specs.Spans.{Fill, lies, with_time_within, with_told_within}
use Rattle.bh_columns.specs.declared.panel.When.{When}

-- whether the circuit is closed
abbrev pub is_closed : CircuitState → Bool
is_closed state.Closed = true
is_closed (state.Open opened) = false
is_closed (state.HalfOpen opened test) = false

-- whether the circuit closed
abbrev pub closes : CircuitState → CircuitState → Bool
closes before after = is_closed after && not (is_closed before)

-- what is kept of a command with the time that passed since the step before, in which the circuit was in the state
abbrev pub time_fill : When → CircuitState → Fill → Fill
time_fill when before f a b = with_time_within a b (max when.since when.from) (min when.moment when.to) before (f a b)

-- with what the step told, and whether it closed the circuit, if its moment is kept
abbrev pub told_fill : When → Tally → Bool → Fill → Fill
told_fill when told closed f a b = if lies when.from when.to when.moment then with_told_within a b when.moment told closed (f a b) else f a b

-- what is kept of a command with a step that came at these moments: the time that passed since the step before is of the state
-- that the circuit was in; what the step told is of its moment. Of both only what lies in the moments that are kept is added
abbrev pub added_fill : When → Tally → CircuitState → CircuitState → Fill → Fill
added_fill when told before after f = told_fill when told (closes before after) (time_fill when before f)

-- the moments of a step of a group in this view: before the first step no time has passed
abbrev pub when_of : ℕ → ℕ → View → Op → ℕ → When
when_of from to v o now =
    let moment = (view_after v o now).present.latest in
    record { since = (if v.present.steps == 0 then moment else v.present.latest); moment = moment; from = from; to = to }

-- what is kept of a command with a step of its group, which was in this view before
abbrev pub filled_with : ℕ → ℕ → View → Op → ℕ → ℕ → Fill → Fill
filled_with from to v o now command f =
    added_fill (when_of from to v o now) (told_of (tally_with v o now command no_tally)) (circuit_of command v.present).state (circuit_of command (view_after v o now).present).state f
