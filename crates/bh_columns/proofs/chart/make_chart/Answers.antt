use Rattle.std.proofs.Common.{refl, subst}
use Rattle.std.specs.Prelude.{max}
use Rattle.bh_columns.specs.Charts.{EachDrawn, IsChartOf, IsDrawnOf, IsFitted}
use Rattle.bh_columns.specs.declared.chart.Chart.{Chart}
use Rattle.bh_columns.specs.Layouts.{layout_of}
use Rattle.bh_columns.proofs.Charting.{has_happened, laid_chart}
use Rattle.bh_columns.proofs.chart.make_chart.Goals as goal

pub returns : goal.returns
returns c =
    let recording = c.args.recording.now in
    let kept = recording.kept in
    let drawn = c.of-drawn.result in
    let most = max c.args.columns 2 in
    let chart : Chart = record {
      begin = c.saturating_mul.result;
      width = c.saturating_mul-width.result;
      count = c.count.result;
      panels = c.in_ok-panels.panels;
      left_out = kept.left_out;
      lines = recording.lines;
      faults = recording.faults;
    } in
    let is : IsChartOf kept most chart = record {
      many = drawn.many;
      first = drawn.first;
      end = drawn.end;
      fitted = subst (λ n. IsFitted kept.grid.extent n drawn.many drawn.first drawn.end) c.max.ensures c.of-drawn.ensures;
      width = c.saturating_mul-width.ensures;
      begin = c.saturating_mul.ensures;
      count = c.count.ensures;
      panels = subst (λ own. EachDrawn own c.in_ok-panels.panels.items (λ one panel. IsDrawnOf drawn.many drawn.first drawn.end one panel)) c.as_slice.ensures.value c.in_ok-panels.ensures;
      left_out = refl;
    } in
    record {
      drawn = is;
      laid_out = λ service sel run recorded. laid_chart (layout_of service sel run.course.entries) kept most chart is recorded.columns.laid_out;
      happened = λ service sel run recorded. has_happened service sel recording.groups kept run most chart is recorded;
      lines = refl;
      faults = refl;
    }
