-- No column so far has more.
use Rattle.std.proofs.Common.{◌≤◌, All, take}
use Rattle.bh_draw.specs.Lengths.{bars_count}
use Rattle.bh_draw.proofs.bar.most_of.Given as goal

abbrev pub invariant-loop-column : goal.invariant-loop-column
invariant-loop-column l = All (λ column. bars_count l.bars column.tally ≤ l.most) (take l.column-index l.columns)
