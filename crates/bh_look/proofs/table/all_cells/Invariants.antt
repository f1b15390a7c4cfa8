use Rattle.std.proofs.Common.{◌≡◌, List, length, map, take}
use Rattle.bh_look.specs.Rows.{row_said}
use Rattle.bh_look.specs.Tables.{all_cells}
use Rattle.bh_look.specs.declared.table.TimesTold.{TimesTold}
use Rattle.bh_look.proofs.table.all_cells.Given as goal

abbrev pub invariant-loop-row : goal.invariant-loop-row
invariant-loop-row l = (times : List TimesTold) × (length times ≡ l.row-index) × (l.lines.items ≡ all_cells (take l.row-index (map row_said l.rows)) times)
