use Rattle.std.proofs.Common.{◌∙◌, sym, arith}
use Rattle.std.proofs.lemmas.List.{length-set}
use Rattle.std.proofs.lemmas.List.FromFn.{length-map-range_with_len, get_or-map-range_with_len}
use Rattle.bh_look.specs.Tables.{width_of, widths_of}
use Rattle.bh_look.proofs.Tables.{written-more, written-all}
use Rattle.bh_look.proofs.table.widths.Goals as goal

pub loop-column-preserved : goal.loop-column-preserved
unfolding widths_of
loop-column-preserved c =
    let column = c.loop-column.column in
    let long = length-map-range_with_len (width_of c.args.lines.now) 0 18 in
    record {
      count = length-set c.loop-column.widths column c.width.result ∙ c.loop-column.invariant.count;
      done = written-more c.loop-column.widths (widths_of c.args.lines.now) column c.width.result 0 (omega arith) (omega (arith, long)) c.loop-column.invariant.done (c.width.ensures ∙ sym (get_or-map-range_with_len (width_of c.args.lines.now) 0 18 column column 0 (omega arith) (omega arith)));
    }

pub returns : goal.returns
unfolding widths_of
returns c =
    let long = length-map-range_with_len (width_of c.args.lines.now) 0 18 in
    written-all c.loop-column.widths (widths_of c.args.lines.now) c.loop-column.column (omega arith) (omega (arith, long)) c.loop-column.invariant.done
