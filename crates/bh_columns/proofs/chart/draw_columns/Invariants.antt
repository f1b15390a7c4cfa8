use Rattle.std.proofs.Common.{◌≡◌, ◌+◌, ◌≤◌, ℕ, Some, length}
use Rattle.std.specs.Prelude.{slice_get}
use Rattle.bh_columns.specs.Charts.{drawn_at}
use Rattle.bh_columns.specs.declared.column.Column.{Column}
use Rattle.bh_columns.proofs.chart.draw_columns.Given as goal

abbrev pub invariant-loop-index : goal.invariant-loop-index
invariant-loop-index l = record {
  count : length l.columns.items + l.drawn.first ≡ l.index;
  none : l.drawn.end ≤ l.drawn.first → length l.columns.items ≡ 0;
  each : (k : ℕ) (column : Column) → slice_get l.columns.items k ≡ Some column → column ≡ drawn_at l.track l.drawn.many (l.drawn.first + k);
}
