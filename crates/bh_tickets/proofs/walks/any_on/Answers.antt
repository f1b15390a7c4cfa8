use Rattle.std.proofs.Common.{refl, sym, ap, ◌∙◌, arith}
use Rattle.std.specs.Prelude.{slice_get}
use Rattle.bh_slot_arena.specs.Slots.{slots_on}
use Rattle.bh_cache.specs.Slots.{has_one}
use Rattle.bh_tickets.proofs.Exists.{any_here, any_next}
use Rattle.bh_tickets.proofs.walks.any_on.Goals as goal

pub returns-then-test : goal.returns-then-test
returns-then-test g c = λ p tells.
    let at = sym c.loop.invariant.ahead ∙ c.in-Some.is in
    let passes = ap (has_one p) (sym c.get.ensures) ∙ sym (tells c.get.result.now c.test.result (record { shown = c.get.result; shows = refl; says = record { met = c.test.ensures } })) ∙ c.if-test.true in
    sym (c.loop.invariant.rest p tells ∙ any_here (λ x. has_one p (slice_get c.args.arena.now.payloads x)) (slots_on c.args.arena.now 0 c.args.list) c.loop.counter c.in-Some.slot at passes)

pub loop-preserved : goal.loop-preserved
loop-preserved g c =
    let at = sym c.loop.invariant.ahead ∙ c.in-Some.is in
    record {
      end = c.loop.invariant.end;
      here = omega (arith, c.loop.invariant.end);
      ahead = c.next-ahead.ensures c.args.list c.loop.counter at;
      rest = λ p tells.
          let fails = ap (has_one p) (sym c.get.ensures) ∙ sym (tells c.get.result.now c.test.result (record { shown = c.get.result; shows = refl; says = record { met = c.test.ensures } })) ∙ c.if-test.false in
          c.loop.invariant.rest p tells ∙ any_next (λ x. has_one p (slice_get c.args.arena.now.payloads x)) (slots_on c.args.arena.now 0 c.args.list) c.loop.counter c.in-Some.slot at fails;
    }
