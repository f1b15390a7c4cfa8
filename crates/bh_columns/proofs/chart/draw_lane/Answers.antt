use Rattle.std.proofs.Common.{ap, refl, ◌∙◌}
use Rattle.bh_columns.specs.Charts.{total_of}
use Rattle.bh_columns.proofs.chart.draw_lane.Goals as goal

pub returns : goal.returns
returns c = record {
  pooled = refl;
  columns = c.in_ok-columns.ensures;
  total = c.total_of-total.ensures ∙ ap total_of c.as_slice.ensures.value;
}
