use Rattle.std.proofs.Common.{◌≡◌, take}
use Rattle.bh_look.specs.Tables.{width_of}
use Rattle.bh_look.proofs.table.width.Given as goal

abbrev pub invariant-loop-cells : goal.invariant-loop-cells
invariant-loop-cells l = l.widest ≡ width_of (take l.cells-index l.lines) l.column
