use Rattle.std.proofs.Common.{◌++◌, [], ◌∷◌, ◌∙◌, ap, arith, length-append, map, sym}
use Rattle.std.proofs.lemmas.List.{get_or-map, length-map, take_all}
use Rattle.bh_look.specs.Rows.{RowSaid, row_said}
use Rattle.bh_look.specs.Tables.{all_cells, cells_of}
use Rattle.bh_look.specs.declared.table.TimesTold.{TimesTold}
use Rattle.bh_look.proofs.Tables.{pairs-step}
use Rattle.bh_look.proofs.table.all_cells.Goals as goal

pub loop-row-preserved : goal.loop-row-preserved
loop-row-preserved c =
    let (times, count, text) = c.loop-row.invariant in
    let t = c.times_told-times.result in
    let rows = c.args.rows.now in
    let row = c.row-item.result in
    let at = c.loop-row.row-index in
    let below = c.loop-row-test.true in (
      times ++ t ∷ [],
      omega (arith, length-append times (t ∷ [])),
      pairs-step (λ (r : RowSaid × TimesTold). cells_of r.0.tally r.1) (map row_said rows) at times (row_said row) t c.loop-row.lines.items c.push.new.self.items (omega (arith, below, length-map rows row_said)) (ap row_said c.row-item.is ∙ sym (get_or-map row_said rows at row (row_said row) below)) count text (c.in_ok-push.ensures.items ∙ ap (λ cells. c.loop-row.lines.items ++ cells ∷ []) c.cells.ensures),
    )

pub returns : goal.returns
returns c =
    let (times, count, text) = c.loop-row.invariant in
    let rows = c.args.rows.now in (
      times,
      omega (arith, count),
      text ∙ ap (λ rs. all_cells rs times) (take_all c.loop-row.row-index (map row_said rows) (omega (arith, length-map rows row_said))),
    )
