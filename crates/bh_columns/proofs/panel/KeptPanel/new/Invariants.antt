use Rattle.std.proofs.Common.{◌≡◌, All, length}
use Rattle.bh_columns.specs.Placed.{IsEmptyLane}
use Rattle.bh_columns.proofs.panel.KeptPanel.new.Given as goal

abbrev pub invariant-loop-number : goal.invariant-loop-number
invariant-loop-number l = record {
  count : length l.lanes.items ≡ l.number;
  empty : All IsEmptyLane l.lanes.items;
}
