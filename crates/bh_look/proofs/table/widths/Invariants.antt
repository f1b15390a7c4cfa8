use Rattle.std.proofs.Common.{◌≡◌, length, take}
use Rattle.bh_look.specs.Tables.{widths_of}
use Rattle.bh_look.proofs.table.widths.Given as goal

abbrev pub invariant-loop-column : goal.invariant-loop-column
invariant-loop-column l = record {
  count : length l.widths ≡ 18;
  done : take l.column l.widths ≡ take l.column (widths_of l.lines);
}
