use Rattle.std.proofs.Common.{◌≡◌, ◌++◌, ◌∷◌, [], None, Some, ap, arith, length, length-append, refl, subst, sym, ◌∙◌}
use Rattle.std.specs.Prelude.{slice_get}
use Rattle.std.proofs.lemmas.Option.{slice_get_read}
use Rattle.bh_columns.specs.Charts.{IsLaneOf}
use Rattle.bh_columns.specs.declared.chart.Lane.{Lane}
use Rattle.bh_columns.specs.declared.lane.KeptLane.{KeptLane}
use Rattle.bh_columns.proofs.Charting.{pushed}
use Rattle.bh_columns.proofs.chart.draw_lanes.Goals as goal

pub loop-number-init : goal.loop-number-init
loop-number-init c =
    let none = c.in_ok-lanes.ensures.items in
    record {
      count = ap length none;
      each = λ k lane at. absurd (let both : None ≡ Some lane = ap (λ xs. slice_get xs k) (sym none) ∙ at in cc);
    }

pub loop-number-preserved : goal.loop-number-preserved
loop-number-preserved c =
    let kept = c.args.kept.now in
    let drawn = c.args.drawn.now in
    let n = c.loop-number.number in
    let old = c.loop-number.lanes.items in
    let mine : KeptLane = c.index-kept-number.result in
    let had : slice_get kept n ≡ Some mine = slice_get_read kept (length kept) n mine refl c.loop-number-test.true c.index-kept-number.is in
    let lane : Lane = c.in_ok-lane.lane in
    let items : c.push.new.self.items ≡ old ++ lane ∷ [] = c.in_ok-push.ensures.items in
    record {
      count = omega (arith, ap length items, length-append old (lane ∷ []), c.loop-number.invariant.count);
      each = λ k x at.
          pushed (λ m y. (own : KeptLane) → slice_get kept m ≡ Some own → IsLaneOf drawn.many drawn.first drawn.end own y) old lane c.loop-number.invariant.each
          (λ own found.
          let both : Some mine ≡ Some own = sym had ∙ ap (slice_get kept) (sym c.loop-number.invariant.count) ∙ found in
          let same : mine ≡ own = cc in
          subst (λ (o : KeptLane). IsLaneOf drawn.many drawn.first drawn.end o lane) same c.in_ok-lane.ensures)
          k x (sym (ap (λ xs. slice_get xs k) items) ∙ at);
    }

pub returns : goal.returns
returns c = record {
  count = omega (arith, c.loop-number.invariant.count, c.loop-number-test.false, c.loop-number.auto.number-end);
  each = λ k own lane had at. c.loop-number.invariant.each k lane at own had;
}
