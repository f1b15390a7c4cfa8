use Rattle.std.proofs.Common.{◌≡◌, ◌<◌, ◌≤◌, ℕ, Some}
use Rattle.std.specs.Prelude.{slice_get}
use Rattle.bh_columns.specs.Filled.{IsJoinedPanel}
use Rattle.bh_columns.specs.declared.panel.KeptPanel.{KeptPanel}
use Rattle.bh_columns.proofs.kept.join_panels.Given as goal

abbrev pub invariant-loop-place : goal.invariant-loop-place
invariant-loop-place l = record {
  done : (k : ℕ) (panel : KeptPanel) → k < l.place → slice_get l.initial.panels k ≡ Some panel → (x : KeptPanel) × (slice_get l.panels k ≡ Some x) × IsJoinedPanel panel x;
  rest : (k : ℕ) → l.place ≤ k → slice_get l.panels k ≡ slice_get l.initial.panels k;
}
