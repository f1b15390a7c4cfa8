use Rattle.std.proofs.Common.{ℕ, List, refl, sym, ap, subst, length, arith, rules}
use Rattle.bh_look.specs.Inside.{IsPadded}
use Rattle.bh_look.proofs.Counts.{padded_more}
use Rattle.bh_look.proofs.times.reach.Goals as goal

pub loop-init : goal.loop-init
loop-init c = record { padded = record { long = omega arith; same = λ k. refl }; long = search rules; few = grind arith }

pub returns-in_err-push-clause-empty : goal.returns-in_err-push-clause-empty
returns-in_err-push-clause-empty c = subst (λ (xs : List ℕ). IsPadded c.args.numbers.now.items xs) (sym c.in_err-push.ensures.items) c.loop.invariant.padded

pub returns-in_err-push-clause-few : goal.returns-in_err-push-clause-few
returns-in_err-push-clause-few c = omega (arith, c.loop.invariant.few, c.loop.invariant.long, ap length c.in_err-push.ensures.items)

pub loop-preserved : goal.loop-preserved
loop-preserved c =
    let is = c.in_ok-push.ensures.items in
    record {
      padded = subst (λ (xs : List ℕ). IsPadded c.args.numbers.now.items xs) (sym is) (padded_more c.args.numbers.now.items c.loop.numbers.items c.loop.invariant.padded);
      long = grind (arith, is, c.loop.invariant.long);
      few = omega (arith, c.loop-test.true);
    }
