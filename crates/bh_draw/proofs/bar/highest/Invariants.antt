-- No stack so far is higher.
use Rattle.std.proofs.Common.{◌≤◌, All, take}
use Rattle.bh_draw.specs.Lengths.{bars_height}
use Rattle.bh_draw.proofs.bar.highest.Given as goal

abbrev pub invariant-loop-column : goal.invariant-loop-column
invariant-loop-column l = All (λ column. bars_height l.bars column.tally l.scale 20 ≤ l.highest) (take l.column-index l.columns)
