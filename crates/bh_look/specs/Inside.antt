-- What the fields of times show, and what holds of them.
use Rattle.std.specs.Prelude.{◌≡◌, ℕ, ◌+◌, ◌<◌, ◌≤◌, List, length, slice_index, sum, take}
use Rattle.bh_look.specs.declared.times.Times.TheInside.{Inside}
use Rattle.bh_look.specs.Times.{TimesView}

abbrev pub times_of : Inside → TimesView
times_of t = record { count = t.count; least = t.least; most = t.most; numbers = t.numbers.items }

-- there are no more grades than times of 64 bits have
abbrev pub HasGrades : Inside → Type 0
HasGrades t = length t.numbers.items ≤ 7424

-- the same numbers, with zeros behind them
pub record IsPadded (old new : List ℕ) : Type 0 where
  pub long : length old ≤ length new
  pub same : (k : ℕ) → slice_index new k ≡ slice_index old k

-- a number that is above 0, up to which the numbers come to so much, and before which they do not
pub record IsRanked (rank place : ℕ) (numbers : List ℕ) : Type 0 where
  pub within : place < length numbers
  pub some : 0 < slice_index numbers place
  pub before : 0 < rank → sum (take place numbers) < rank
  pub reached : rank ≤ sum (take (place + 1) numbers)
