use Rattle.std.proofs.Common.{◌≡◌, ◌<◌, Some, get_or, length, subst, ◌∙◌, arith}
use Rattle.std.specs.Prelude.{slice_get}
use Rattle.std.proofs.lemmas.Option.{get_or_from_slice_get, slice_get_within}
use Rattle.bh_look.proofs.Adding.{set_other}
use Rattle.bh_columns.specs.Panels.{IsNewLife}
use Rattle.bh_columns.specs.declared.lane.KeptLane.{KeptLane}
use Rattle.bh_columns.proofs.Lists.{each_more}
use Rattle.bh_columns.proofs.lane.begin_all.Goals as goal

pub loop-place-preserved : goal.loop-place-preserved
loop-place-preserved c =
    let lanes = c.loop-place.lanes in
    let n = c.loop-place.place in
    let next = c.begin_life.new.self in
    let inside : n < length c.args.lanes.now = omega (arith, c.loop-place-test.true, c.loop-place.auto.place-end) in
    let within : n < length lanes = omega (arith, inside, c.loop-place.auto.lanes) in
    let mine : (lane : KeptLane) → slice_get c.args.lanes.now n ≡ Some lane → get_or lanes n c.index-lanes-place.result ≡ lane =
    λ lane found. get_or_from_slice_get lanes n lane c.index-lanes-place.result (c.loop-place.invariant.rest n (omega arith) ∙ found) in
    record {
      done = each_more c.args.lanes.now lanes n next (λ k lane x. IsNewLife lane x) within c.loop-place.invariant.done (λ lane found. subst (λ (l : KeptLane). IsNewLife l next) (mine lane found) c.begin_life.ensures);
      rest = λ k past. set_other lanes n k next (λ same. absurd (omega (arith, past, same))) ∙ c.loop-place.invariant.rest k (omega (arith, past));
    }

pub returns : goal.returns
returns c = record {
  count = c.loop-place.auto.lanes;
  each = λ k lane found. c.loop-place.invariant.done k lane (omega (arith, slice_get_within c.args.lanes.now k lane found, c.loop-place-test.false, c.loop-place.auto.place-end)) found;
}
