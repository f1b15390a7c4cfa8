use Rattle.std.proofs.Common.{◌≡◌, ◌++◌, map, take}
use Rattle.std.specs.List.{flat_map, zip}
use Rattle.bh_look.specs.Rows.{row_said}
use Rattle.bh_look.specs.Tables.{row_line}
use Rattle.bh_look.proofs.table.put_rows.Given as goal

abbrev pub invariant-loop-number : goal.invariant-loop-number
invariant-loop-number l = l.out.items ≡ l.initial.out.items ++ flat_map (row_line l.named l.widths) (take l.number (zip (map row_said l.rows) l.cells))
