use Rattle.std.proofs.Common.{◌≡◌, map, take}
use Rattle.bh_look.specs.Rows.{row_said}
use Rattle.bh_look.specs.Tables.{name_width}
use Rattle.bh_look.proofs.table.name_width.Given as goal

abbrev pub invariant-loop-row : goal.invariant-loop-row
invariant-loop-row l = l.widest ≡ name_width (map row_said (take l.row-index l.rows))
