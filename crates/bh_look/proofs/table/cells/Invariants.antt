use Rattle.std.proofs.Common.{◌≡◌, length, map, take}
use Rattle.bh_look.proofs.table.cells.Given as goal

abbrev pub invariant-loop-column : goal.invariant-loop-column
invariant-loop-column l = record {
  count : length l.cells ≡ 20;
  done : take l.column l.cells ≡ take l.column (map (λ m. m.1) l.member-items);
}
