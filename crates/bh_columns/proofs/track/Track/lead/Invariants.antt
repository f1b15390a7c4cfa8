use Rattle.std.proofs.Common.{◌≡◌, ◌+◌, length, All}
use Rattle.bh_columns.specs.Columns.{no_column}
use Rattle.bh_columns.proofs.track.Track.lead.Given as goal

abbrev pub invariant-loop : goal.invariant-loop
invariant-loop l = record {
  count : length l.columns.items + l.fn.first ≡ l.counter;
  none : All (λ c. c ≡ no_column) l.columns.items;
}
