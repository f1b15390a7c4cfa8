-- What is kept of a command in the moments from one on and before another.
use Rattle.std.specs.Prelude.{◌≡◌, ◌<◌, ◌≤◌, ℕ, Bool, ◌&&◌, nat_lt, nat_le, max, min, Some, if◌then◌else◌}
use Rattle.bh_base.specs.declared.circuit.CircuitState.{CircuitState}
use Rattle.bh_look.specs.declared.tally.Tally.{Tally}
use Rattle.bh_columns.specs.Columns.{joined, no_column, with_time_from, with_told_at}
use Rattle.bh_columns.specs.declared.column.Column.{Column}
use Rattle.bh_columns.specs.declared.column.Standing.{Standing}
use Rattle.bh_columns.specs.declared.stay.Stay.{Stay}

-- whether the moment lies from one on and before another
abbrev pub lies : ℕ → ℕ → ℕ → Bool
lies from to moment = nat_le from moment && nat_lt moment to

-- the part of a stay that lies from one moment on and before another
abbrev pub stay_within : ℕ → ℕ → Stay → Stay
stay_within from to s = record s { since = max s.since from; until = min s.until to }

-- with the part of a time that lies from one moment on and before another
abbrev pub with_time_within : ℕ → ℕ → ℕ → ℕ → CircuitState → Column → Column
with_time_within from to since until circuit c = with_time_from (max since from) (min until to) circuit c

-- with what a step told at the moment, where that lies from one on and before another
abbrev pub with_told_within : ℕ → ℕ → ℕ → Tally → Bool → Column → Column
with_told_within from to moment told closes c = if lies from to moment then with_told_at moment told closes c else c

-- what is kept in the moments from one on and before another, whichever they are
abbrev pub Fill : Type 0
Fill = ℕ → ℕ → Column

-- what is kept of moments side by side is that of all of them, joined; and how the circuit stood at the first lies in them
pub record IsFill (f : Fill) : Type 0 where
  pub joins : (a b c : ℕ) → a ≤ b → b ≤ c → f a c ≡ joined (f a b) (f b c)
  pub begins : (a b : ℕ) (s : Standing) → (f a b).began ≡ Some s → (a ≤ s.moment) × (s.moment < b)
  pub none : (a : ℕ) → f a a ≡ no_column
