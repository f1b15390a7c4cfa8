use Rattle.std.proofs.Common.{◌≡◌, ℕ, Some, length}
use Rattle.std.specs.Prelude.{slice_get}
use Rattle.bh_columns.specs.Charts.{IsDrawnOf}
use Rattle.bh_columns.specs.declared.chart.Panel.{Panel}
use Rattle.bh_columns.specs.declared.panel.KeptPanel.{KeptPanel}
use Rattle.bh_columns.proofs.chart.draw_panels.Given as goal

abbrev pub invariant-loop-place : goal.invariant-loop-place
invariant-loop-place l = record {
  count : length l.panels.items ≡ l.place;
  each : (k : ℕ) (panel : Panel) → slice_get l.panels.items k ≡ Some panel → (own : KeptPanel) → slice_get l.kept k ≡ Some own → IsDrawnOf l.drawn.many l.drawn.first l.drawn.end own panel;
}
