use Rattle.std.proofs.Common.{◌+◌, ◌<◌, ◌≤◌, inl, inr, refl, sym, ap, ◌∙◌, arith}
use Rattle.std.proofs.lemmas.Bool.{cases_lt}
use Rattle.bh_port.proofs.Keeping.{either}
use Rattle.bh_columns.specs.Tracks.{HasRoom, column_at, with_stay_in}
use Rattle.bh_columns.proofs.Tracking.{spent_here, stay_before, stay_behind}
use Rattle.bh_columns.proofs.track.Track.spend.Goals as goal

pub loop-index-init : goal.loop-index-init
loop-index-init c = record {
  done = λ reach room i before. sym (stay_before c.args.reach.now c.args.stay.now i _ reach before);
  rest = λ i reach room le. refl;
  room = λ from to room. room;
}

pub loop-index-preserved : goal.loop-index-preserved
loop-index-preserved c =
    let j = c.loop-index.index in
    let old = c.args.self.now in
    let mid = c.loop-index.self in
    let new = c.spend_at.new.self in
    let r = c.args.reach.now in
    let s = c.args.stay.now in
    let inside : j < r.end = omega (arith, c.loop-index-test.true) in
    let from : r.first ≤ j = omega (arith, c.loop-index.auto.index) in
    let here : HasRoom old r.first r.end → HasRoom mid j (j + 1) = λ room.
    let kept = c.loop-index.invariant.room r.first r.end room in
    record { begin = omega (arith, kept.begin, from); end = omega (arith, kept.end, inside) } in
    record {
      done = λ reach room i below.
          let spent = c.spend_at.ensures.columns (here room) in
          elim (either i j) [
            | inl is ↦ (
                let mine = spent_here old mid new r s c.within-part.result j c.saturating_mul-begin.result c.saturating_add.result reach inside c.saturating_mul-begin.ensures c.saturating_add.ensures c.within-part.ensures spent (c.loop-index.invariant.rest j reach room (omega arith)) in
                ap (column_at new) is ∙ mine ∙ ap (λ k. with_stay_in r.width k s (column_at old k)) (sym is))
            | inr differ ↦ spent.other i differ ∙ c.loop-index.invariant.done reach room i (omega (arith, below, differ))
          ];
      rest = λ i reach room past.
          let spent = c.spend_at.ensures.columns (here room) in
          spent.other i (λ is. absurd (omega (arith, past, is))) ∙ c.loop-index.invariant.rest i reach room (omega (arith, past));
      room = λ from to room. c.spend_at.ensures.room from to (c.loop-index.invariant.room from to room);
    }

pub returns-clause-columns : goal.returns-clause-columns
returns-clause-columns c = λ reach room i. elim (cases_lt i c.loop-index.index) [
  | inl done ↦ c.loop-index.invariant.done reach room i done
  | inr rest ↦ c.loop-index.invariant.rest i reach room rest ∙ sym (stay_behind c.args.reach.now c.args.stay.now i (column_at c.args.self.now i) reach (omega (arith, rest, c.loop-index-test.false)))
]
