use Rattle.std.proofs.Common.{◌≡◌, ◌++◌, take}
use Rattle.std.specs.List.{flat_map, zip}
use Rattle.bh_look.specs.Tables.{at_right, heads}
use Rattle.bh_look.proofs.table.put_heads.Given as goal

abbrev pub invariant-loop-column : goal.invariant-loop-column
invariant-loop-column l = l.out.items ≡ l.initial.out.items ++ flat_map at_right (take l.column (zip l.widths heads))
