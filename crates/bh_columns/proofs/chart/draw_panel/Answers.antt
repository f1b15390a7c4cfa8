use Rattle.std.proofs.Common.{refl, subst, ◌∙◌}
use Rattle.bh_columns.specs.Charts.{EachDrawn, IsLaneOf}
use Rattle.bh_columns.proofs.chart.draw_panel.Goals as goal

pub returns : goal.returns
returns c =
    let drawn = c.args.drawn.now in
    record {
      group = refl;
      like = refl;
      lives = c.in_ok-lives.ensures.items ∙ c.as_slice-2.ensures.value;
      lanes = subst (λ own. EachDrawn own c.in_ok-lanes.lanes.items (λ one lane. IsLaneOf drawn.many drawn.first drawn.end one lane)) c.as_slice.ensures.value c.in_ok-lanes.ensures;
      pool = c.in_ok-pool.ensures.used;
      no_pool = c.in_ok-pool.ensures.none;
    }
