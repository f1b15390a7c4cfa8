use Rattle.std.proofs.Common.{◌≡◌, ◌+◌, ◌*◌, ◌/◌, ◌<◌, ◌≤◌, ℕ, length, get_or}
use Rattle.bh_columns.specs.Columns.{no_column}
use Rattle.bh_columns.specs.Tracks.{column_at, joined_run}
use Rattle.bh_columns.proofs.track.Track.join.Given as goal

abbrev pub invariant-loop-place : goal.invariant-loop-place
invariant-loop-place l = record {
  first : l.self.first ≡ l.fn.self.first;
  count : length l.self.columns.items ≡ length l.fn.self.columns.items;
  done : (k : ℕ) → k < l.place → get_or l.self.columns.items k no_column ≡ joined_run (column_at l.fn.self) ((l.fn.self.first / 10 + k) * 10) 10;
  rest : (k : ℕ) → l.place ≤ k → get_or l.self.columns.items k no_column ≡ get_or l.fn.self.columns.items k no_column;
}
