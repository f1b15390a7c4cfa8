use Rattle.std.proofs.Common.{get_or, [], refl, arith}
use Rattle.bh_look.specs.Tables.{at_right, heads}
use Rattle.bh_look.proofs.Tables.{zip-step, zip-all}
use Rattle.bh_look.proofs.table.put_heads.Goals as goal

pub loop-column-preserved : goal.loop-column-preserved
loop-column-preserved c =
    let column = c.loop-column.column in
    zip-step at_right c.args.widths.now heads column (get_or c.args.widths.now column 0) 0 c.head.result.now [] c.args.out.now.items c.loop-column.out.items c.put_right.new.out.items (omega arith) (omega arith) refl c.head.ensures c.loop-column.invariant c.in_ok-put_right.ensures

pub returns : goal.returns
returns c = zip-all at_right c.args.widths.now heads c.loop-column.column c.args.out.now.items c.loop-column.out.items (omega arith) c.loop-column.invariant
