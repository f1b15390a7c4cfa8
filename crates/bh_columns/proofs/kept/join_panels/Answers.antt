use Rattle.std.proofs.Common.{◌≡◌, ◌<◌, Some, get_or, length, subst, ◌∙◌, arith}
use Rattle.std.specs.Prelude.{slice_get}
use Rattle.std.proofs.lemmas.Option.{get_or_from_slice_get, slice_get_within}
use Rattle.bh_look.proofs.Adding.{set_other}
use Rattle.bh_columns.specs.Filled.{IsJoinedPanel}
use Rattle.bh_columns.specs.declared.panel.KeptPanel.{KeptPanel}
use Rattle.bh_columns.proofs.Lists.{each_more}
use Rattle.bh_columns.proofs.kept.join_panels.Goals as goal

pub loop-place-preserved : goal.loop-place-preserved
loop-place-preserved c =
    let panels = c.loop-place.panels in
    let n = c.loop-place.place in
    let next = c.join.new.self in
    let was = c.index-panels-place.result in
    let inside : n < length c.args.panels.now = omega (arith, c.loop-place-test.true, c.loop-place.auto.place-end) in
    let within : n < length panels = omega (arith, inside, c.loop-place.auto.panels) in
    let here : IsJoinedPanel (get_or panels n was) next = record { lanes = c.join.ensures.lanes; steps = c.join.ensures.steps; group = c.join.ensures.group; like = c.join.ensures.like } in
    let mine : (panel : KeptPanel) → slice_get c.args.panels.now n ≡ Some panel → get_or panels n was ≡ panel =
    λ panel found. get_or_from_slice_get panels n panel was (c.loop-place.invariant.rest n (omega arith) ∙ found) in
    record {
      done = each_more c.args.panels.now panels n next (λ k panel x. IsJoinedPanel panel x) within c.loop-place.invariant.done (λ panel found. subst (λ (p : KeptPanel). IsJoinedPanel p next) (mine panel found) here);
      rest = λ k past. set_other panels n k next (λ same. absurd (omega (arith, past, same))) ∙ c.loop-place.invariant.rest k (omega (arith, past));
    }

pub returns : goal.returns
returns c = record {
  count = c.loop-place.auto.panels;
  each = λ k panel found. c.loop-place.invariant.done k panel (omega (arith, slice_get_within c.args.panels.now k panel found, c.loop-place-test.false, c.loop-place.auto.place-end)) found;
}
