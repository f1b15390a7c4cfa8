use Rattle.std.proofs.Common.{◌∙◌, get_or, [], refl, sym, ap, map, arith}
use Rattle.std.proofs.lemmas.List.{get_or-map, length-map}
use Rattle.bh_look.specs.Rows.{row_said}
use Rattle.bh_look.specs.Tables.{row_line}
use Rattle.bh_look.proofs.Tables.{zip-step, zip-all}
use Rattle.bh_look.proofs.table.put_rows.Goals as goal

pub loop-number-preserved : goal.loop-number-preserved
loop-number-preserved c =
    let number = c.loop-number.number in
    let rows = c.args.rows.now in
    let row = c.index-rows-number.result in
    zip-step (row_line c.args.named c.args.widths.now) (map row_said rows) c.args.cells.now number (row_said row) (row_said row) (get_or c.args.cells.now number []) [] c.args.out.now.items c.loop-number.out.items c.put_row.new.out.items
    (omega (arith, length-map rows row_said)) (omega arith) (ap row_said c.index-rows-number.is ∙ sym (get_or-map row_said rows number row (row_said row) (omega arith))) refl c.loop-number.invariant c.in_ok-put_row.ensures

pub returns : goal.returns
returns c =
    let rows = c.args.rows.now in
    zip-all (row_line c.args.named c.args.widths.now) (map row_said rows) c.args.cells.now c.loop-number.number c.args.out.now.items c.loop-number.out.items (omega (arith, length-map rows row_said)) c.loop-number.invariant
