use Rattle.std.proofs.Common.{◌≡◌}
use Rattle.std.specs.Prelude.{slice_index_or}
use Rattle.bh_columns.specs.Columns.{no_column}
use Rattle.bh_columns.specs.Tracks.{joined_run}
use Rattle.bh_columns.proofs.chart.total_of.Given as goal

abbrev pub invariant-loop-column : goal.invariant-loop-column
invariant-loop-column l = l.total ≡ joined_run (λ k. slice_index_or l.columns k no_column) 0 l.column-index
