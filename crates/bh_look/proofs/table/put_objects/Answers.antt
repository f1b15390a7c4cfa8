use Rattle.std.proofs.Common.{◌++◌, [], ◌∷◌, arith, length-append}
use Rattle.bh_look.proofs.Objects.{objects-step}
use Rattle.bh_look.proofs.table.put_objects.Goals as goal

pub loop-row-preserved : goal.loop-row-preserved
loop-row-preserved c =
    let (times, count, text) = c.loop-row.invariant in
    let t = c.times_told-times.result in (
      times ++ t ∷ [],
      omega (arith, length-append times (t ∷ [])),
      objects-step c.args.rows.now c.loop-row.row-index times c.row-item.result t c.args.out.now.items c.loop-row.out.items c.put_object.new.out.items c.loop-row-test.true c.row-item.is count text c.in_ok-put_object.ensures,
    )
