use Rattle.std.proofs.Common.{◌≡◌, ◌++◌, ◌∷◌, [], None, Some, ap, arith, length, length-append, refl, subst, sym, ◌∙◌}
use Rattle.std.specs.Prelude.{slice_get}
use Rattle.std.proofs.lemmas.Option.{slice_get_read}
use Rattle.bh_columns.specs.Charts.{IsDrawnOf}
use Rattle.bh_columns.specs.declared.chart.Panel.{Panel}
use Rattle.bh_columns.specs.declared.panel.KeptPanel.{KeptPanel}
use Rattle.bh_columns.proofs.Charting.{pushed}
use Rattle.bh_columns.proofs.chart.draw_panels.Goals as goal

pub loop-place-init : goal.loop-place-init
loop-place-init c =
    let none = c.in_ok-panels.ensures.items in
    record {
      count = ap length none;
      each = λ k panel at. absurd (let both : None ≡ Some panel = ap (λ xs. slice_get xs k) (sym none) ∙ at in cc);
    }

pub loop-place-preserved : goal.loop-place-preserved
loop-place-preserved c =
    let kept = c.args.kept.now in
    let drawn = c.args.drawn.now in
    let n = c.loop-place.place in
    let old = c.loop-place.panels.items in
    let mine : KeptPanel = c.index-kept-place.result in
    let had : slice_get kept n ≡ Some mine = slice_get_read kept (length kept) n mine refl c.loop-place-test.true c.index-kept-place.is in
    let panel : Panel = c.in_ok-panel.panel in
    let items : c.push.new.self.items ≡ old ++ panel ∷ [] = c.in_ok-push.ensures.items in
    record {
      count = omega (arith, ap length items, length-append old (panel ∷ []), c.loop-place.invariant.count);
      each = λ k x at.
          pushed (λ m y. (own : KeptPanel) → slice_get kept m ≡ Some own → IsDrawnOf drawn.many drawn.first drawn.end own y) old panel c.loop-place.invariant.each
          (λ own found.
          let both : Some mine ≡ Some own = sym had ∙ ap (slice_get kept) (sym c.loop-place.invariant.count) ∙ found in
          let same : mine ≡ own = cc in
          subst (λ (o : KeptPanel). IsDrawnOf drawn.many drawn.first drawn.end o panel) same c.in_ok-panel.ensures)
          k x (sym (ap (λ xs. slice_get xs k) items) ∙ at);
    }

pub returns : goal.returns
returns c = record {
  count = omega (arith, c.loop-place.invariant.count, c.loop-place-test.false, c.loop-place.auto.place-end);
  each = λ k own panel had at. c.loop-place.invariant.each k panel at own had;
}
