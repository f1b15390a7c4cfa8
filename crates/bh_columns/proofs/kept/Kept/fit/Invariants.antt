use Rattle.std.proofs.Common.{◌≡◌}
use Rattle.bh_columns.specs.Filled.{AreFilled, AreFills, Fills, SamePanel}
use Rattle.bh_columns.specs.Panels.{EachAt}
use Rattle.bh_columns.specs.Spans.{Fill, IsFill}
use Rattle.bh_columns.specs.Tracks.{IsWithin}
use Rattle.bh_columns.proofs.kept.Kept.fit.Given as goal

abbrev pub invariant-loop : goal.invariant-loop
invariant-loop l = record {
  filled : (fs : Fills) → AreFills fs → AreFilled l.fn.self.panels.items l.fn.self.grid.width fs → AreFilled l.self.panels.items l.self.grid.width fs;
  panels : EachAt l.fn.self.panels.items l.self.panels.items (λ place panel next. SamePanel panel next);
  within : (f : Fill) → IsFill f → IsWithin l.fn.self.grid.extent l.fn.self.grid.width f → IsWithin l.self.grid.extent l.self.grid.width f;
  places : l.self.places ≡ l.fn.self.places;
  selection : l.self.selection ≡ l.fn.self.selection;
  lanes : l.self.lanes ≡ l.fn.self.lanes;
  left_out : l.self.left_out ≡ l.fn.self.left_out;
}
