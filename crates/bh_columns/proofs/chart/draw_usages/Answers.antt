use Rattle.std.proofs.Common.{◌≡◌, ◌+◌, ◌++◌, ◌∷◌, [], inl, inr, None, Some, ap, arith, length, length-append, sym, ◌∙◌}
use Rattle.std.specs.Prelude.{slice_get}
use Rattle.std.proofs.lemmas.Bool.{cases_lt}
use Rattle.bh_columns.specs.Charts.{drawn_at}
use Rattle.bh_columns.specs.declared.column.Column.{Column}
use Rattle.bh_columns.specs.declared.column.Usage.{Usage}
use Rattle.bh_columns.proofs.Charting.{pushed}
use Rattle.bh_columns.proofs.chart.draw_usages.Goals as goal

pub loop-index-init : goal.loop-index-init
loop-index-init c =
    let none = c.in_ok-usages.ensures.items in
    record {
      count = omega (arith, ap length none);
      none = λ _. ap length none;
      each = λ k x at. absurd (let both : None ≡ Some x = ap (λ xs. slice_get xs k) (sym none) ∙ at in cc);
    }

pub loop-index-preserved : goal.loop-index-preserved
loop-index-preserved c =
    let drawn = c.args.drawn.now in
    let old = c.loop-index.usages.items in
    let column : Column = c.joined.result in
    let usage : Usage = column.usage in
    let items : c.push.new.self.items ≡ old ++ usage ∷ [] = c.in_ok-push.ensures.items in
    let more = ap length items ∙ length-append old (usage ∷ []) in
    let here : c.loop-index.index ≡ drawn.first + length old = omega (arith, c.loop-index.invariant.count) in
    record {
      count = omega (arith, more, c.loop-index.invariant.count);
      none = λ none. absurd (omega (arith, none, c.loop-index-test.true, c.loop-index.auto.index));
      each = λ k x at.
          pushed (λ n y. y ≡ (drawn_at c.args.track.now drawn.many (drawn.first + n)).usage) old usage c.loop-index.invariant.each
          (ap (λ (d : Column). d.usage) (c.joined.ensures ∙ ap (drawn_at c.args.track.now drawn.many) here)) k x (sym (ap (λ xs. slice_get xs k) items) ∙ at);
    }

pub returns : goal.returns
returns c = record {
  count = elim (cases_lt c.args.drawn.now.first c.args.drawn.now.end) [
    | inl some ↦ (let past = c.loop-index.auto.index-end (omega (arith, some)) in omega (arith, some, past, c.loop-index.invariant.count, c.loop-index-test.false))
    | inr none ↦ (let nothing = c.loop-index.invariant.none none in omega (arith, none, nothing))
  ];
  each = c.loop-index.invariant.each;
}
