use Rattle.std.proofs.Common.{◌≡◌, ◌<◌, ℕ, Some}
use Rattle.std.specs.Prelude.{slice_get}
use Rattle.bh_columns.specs.Recorded.{IsPanelOf}
use Rattle.bh_columns.specs.declared.panel.KeptPanel.{KeptPanel}
use Rattle.bh_columns.proofs.kept.find_panel.Given as goal

abbrev pub invariant-loop-place : goal.invariant-loop-place
invariant-loop-place l = (p : ℕ) (panel : KeptPanel) → p < l.place → slice_get l.panels p ≡ Some panel → IsPanelOf l.group l.like panel → ⊥
