use Rattle.std.proofs.Common.{◌≡◌, ◌<◌, Some, get_or, length, ap, ◌∙◌, arith}
use Rattle.std.specs.Prelude.{slice_get}
use Rattle.std.proofs.lemmas.Option.{get_or_from_slice_get, slice_get_within}
use Rattle.bh_look.specs.declared.lane.Lane.{Lane}
use Rattle.bh_look.specs.Looked.{HasAdded, tally_looked}
use Rattle.bh_look.proofs.Adding.{each_more, set_other}
use Rattle.bh_look.proofs.making.add_looks.Goals as goal

pub loop-command-preserved : goal.loop-command-preserved
loop-command-preserved c =
    let lanes = c.loop-command.lanes in
    let n = c.loop-command.command in
    let inside : n < length c.args.lanes.now = omega (arith, c.loop-command-test.true, c.loop-command.auto.command-end, c.lane_count-command-end.ensures.within) in
    let within : n < length lanes = omega (arith, inside, c.loop-command.auto.lanes) in
    let mine : (lane : Lane) → slice_get c.args.lanes.now n ≡ Some lane → get_or lanes n c.index-lanes-command.result ≡ lane =
    λ lane found. get_or_from_slice_get lanes n lane c.index-lanes-command.result (c.loop-command.invariant.rest n (omega arith) ∙ found) in
    record {
      done = λ v at fit. each_more c.args.lanes.now lanes n c.add_look.new.lane (λ k lane x. HasAdded v k c.args.now c.args.asks c.args.passed lane x) within (c.loop-command.invariant.done v at fit) (λ lane found. record { after = c.shown-after.result; shown = c.shown-after.ensures v at (omega (arith, fit.count, inside)); tally = c.add_look.ensures ∙ ap (λ (l : Lane). tally_looked l.before c.shown-after.result c.args.passed l.tally) (mine lane found) });
      rest = λ k past. set_other lanes n k c.add_look.new.lane (λ same. absurd (omega (arith, past, same))) ∙ c.loop-command.invariant.rest k (omega (arith, past));
    }

pub returns : goal.returns
returns c = λ v at fit k lane found.
    let within = slice_get_within c.args.lanes.now k lane found in
    let last = c.lane_count-command-end.ensures.all (omega (arith, fit.count, fit.few)) in
    c.loop-command.invariant.done v at fit k lane (omega (arith, within, last, c.loop-command-test.false, c.loop-command.auto.command-end)) found
