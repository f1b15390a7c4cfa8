use Rattle.std.proofs.Common.{get_or, [], None, refl, sym, map, arith}
use Rattle.std.proofs.lemmas.List.{get_or-map, length-map}
use Rattle.bh_look.specs.Tables.{at_right, cell_text}
use Rattle.bh_look.proofs.Tables.{zip-step, zip-all}
use Rattle.bh_look.proofs.table.put_cells.Goals as goal

pub loop-column-preserved : goal.loop-column-preserved
loop-column-preserved c =
    let column = c.loop-column.column in
    let cells = c.args.cells.now in
    zip-step at_right c.args.widths.now (map cell_text cells) column (get_or c.args.widths.now column 0) 0 (cell_text (get_or cells column None)) [] c.args.out.now.items c.loop-column.out.items c.put_cell.new.out.items (omega arith) (omega (arith, length-map cells cell_text)) refl (sym (get_or-map cell_text cells column None [] (omega arith))) c.loop-column.invariant c.in_ok-put_cell.ensures

pub returns : goal.returns
returns c = zip-all at_right c.args.widths.now (map cell_text c.args.cells.now) c.loop-column.column c.args.out.now.items c.loop-column.out.items (omega arith) c.loop-column.invariant
