use Rattle.std.proofs.Common.{◌≡◌, ◌++◌, List, length, map, take}
use Rattle.bh_look.specs.Objects.{objects_of}
use Rattle.bh_look.specs.Rows.{row_said}
use Rattle.bh_look.specs.declared.table.TimesTold.{TimesTold}
use Rattle.bh_look.proofs.table.put_objects.Given as goal

abbrev pub invariant-loop-row : goal.invariant-loop-row
invariant-loop-row l = (times : List TimesTold) × (length times ≡ l.row-index) × (l.out.items ≡ l.initial.out.items ++ objects_of (map row_said (take l.row-index l.rows)) times)
