use Rattle.std.proofs.Common.{◌≡◌, ◌+◌, ◌≤◌, ℕ, Some, length}
use Rattle.std.specs.Prelude.{slice_get}
use Rattle.bh_columns.specs.Charts.{drawn_at}
use Rattle.bh_columns.specs.declared.column.Usage.{Usage}
use Rattle.bh_columns.proofs.chart.draw_usages.Given as goal

abbrev pub invariant-loop-index : goal.invariant-loop-index
invariant-loop-index l = record {
  count : length l.usages.items + l.drawn.first ≡ l.index;
  none : l.drawn.end ≤ l.drawn.first → length l.usages.items ≡ 0;
  each : (k : ℕ) (usage : Usage) → slice_get l.usages.items k ≡ Some usage → usage ≡ (drawn_at l.track l.drawn.many (l.drawn.first + k)).usage;
}
