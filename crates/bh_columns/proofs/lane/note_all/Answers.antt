use Rattle.std.proofs.Common.{◌≡◌, ◌<◌, Some, get_or, length, subst, ◌∙◌, arith}
use Rattle.std.specs.Prelude.{slice_get}
use Rattle.std.proofs.lemmas.Option.{get_or_from_slice_get, slice_get_within}
use Rattle.bh_look.proofs.Adding.{set_other}
use Rattle.bh_base.specs.Machine.{circuit_of}
use Rattle.bh_look.specs.declared.lane.Lane.{Lane}
use Rattle.bh_columns.specs.Columns.{told_of}
use Rattle.bh_columns.specs.Panels.{HasNotedAt}
use Rattle.bh_columns.specs.Steps.{closes}
use Rattle.bh_columns.specs.declared.lane.KeptLane.{KeptLane}
use Rattle.bh_columns.proofs.Lists.{each_more}
use Rattle.bh_columns.proofs.lane.note_all.Goals as goal

pub loop-command-preserved : goal.loop-command-preserved
loop-command-preserved c =
    let lanes = c.loop-command.lanes in
    let n = c.loop-command.command in
    let next = c.note.new.self in
    let inside : n < length c.args.lanes.now = omega (arith, c.loop-command-test.true, c.loop-command.auto.command-end, c.lane_count-command-end.ensures.within) in
    let within : n < length lanes = omega (arith, inside, c.loop-command.auto.lanes) in
    let mine : (lane : KeptLane) → slice_get c.args.lanes.now n ≡ Some lane → get_or lanes n c.index-lanes-command.result ≡ lane =
    λ lane found. get_or_from_slice_get lanes n lane c.index-lanes-command.result (c.loop-command.invariant.rest n (omega arith) ∙ found) in
    record {
      done = λ v at fit count. each_more c.args.lanes.now lanes n next (λ k lane x. (step : Lane) → slice_get c.args.steps.now k ≡ Some step → HasNotedAt c.args.index c.args.moment (told_of step.tally) (closes lane.circuit (circuit_of k v.present).state) lane x) within (c.loop-command.invariant.done v at fit count)
          (λ lane found step had.
          let told = c.told_at-told.ensures step had in
          let after = c.circuit_of-after.ensures v at (omega (arith, fit.count, inside)) in
          subst (λ (l : KeptLane). HasNotedAt c.args.index c.args.moment (told_of step.tally) (closes l.circuit (circuit_of n v.present).state) l next) (mine lane found)
          (subst (λ t. HasNotedAt c.args.index c.args.moment t (closes (get_or lanes n c.index-lanes-command.result).circuit (circuit_of n v.present).state) (get_or lanes n c.index-lanes-command.result) next) told
          (subst (λ st. HasNotedAt c.args.index c.args.moment c.told_at-told.result (closes (get_or lanes n c.index-lanes-command.result).circuit st) (get_or lanes n c.index-lanes-command.result) next) after c.note.ensures)));
      rest = λ k past. set_other lanes n k next (λ same. absurd (omega (arith, past, same))) ∙ c.loop-command.invariant.rest k (omega (arith, past));
    }

pub returns : goal.returns
returns c = λ v at fit count. record {
  count = c.loop-command.auto.lanes;
  each = λ k lane found.
      let within = slice_get_within c.args.lanes.now k lane found in
      let last = c.lane_count-command-end.ensures.all (omega (arith, fit.count, fit.few)) in
      c.loop-command.invariant.done v at fit count k lane (omega (arith, within, last, c.loop-command-test.false, c.loop-command.auto.command-end)) found;
}
