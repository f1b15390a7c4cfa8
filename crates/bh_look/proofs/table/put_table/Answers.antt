use Rattle.std.proofs.Common.{◌∙◌, ap, arith, length, map}
use Rattle.std.proofs.lemmas.List.{length-map}
use Rattle.std.proofs.lemmas.Slice.Zip.{length-zip}
use Rattle.std.specs.List.{zip}
use Rattle.bh_look.specs.Tables.{cells_of}
use Rattle.bh_look.specs.Rows.{RowSaid, row_said}
use Rattle.bh_look.specs.declared.table.TimesTold.{TimesTold}
use Rattle.bh_look.proofs.table.put_table.Goals as goal

pub put_table_with-requires : goal.put_table_with-requires
put_table_with-requires c =
    let (times, count, is) = c.in_ok-lines.ensures in
    let rows = c.args.rows.now in
    ap length (c.as_slice.ensures.value ∙ is) ∙ length-map (zip (map row_said rows) times) (λ (r : RowSaid × TimesTold). cells_of r.0.tally r.1) ∙ omega (arith, length-zip (map row_said rows) times, length-map rows row_said)
