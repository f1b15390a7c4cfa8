use Rattle.std.proofs.Common.{◌≡◌, ◌*◌, ◌^◌, ◌<◌, inl, inr, ℕ, ap, arith, subst, sym, ◌∙◌}
use Rattle.std.proofs.lemmas.Grind.{pow_more}
use Rattle.bh_port.proofs.Keeping.{either}
use Rattle.bh_columns.specs.Charts.{count_in}
use Rattle.bh_columns.proofs.Charting.{few_at_last, first_of, narrowest_is, narrowest_some, power_fits}
use Rattle.bh_columns.proofs.drawn.narrowest.Goals as goal

pub narrowest_of-requires-clause-some : goal.narrowest_of-requires-clause-some
narrowest_of-requires-clause-some c = (power_fits c.loop.power c.loop.counter c.loop.invariant.power (omega (arith, c.loop-test.true))).0

pub narrowest_of-requires-clause-fits : goal.narrowest_of-requires-clause-fits
narrowest_of-requires-clause-fits c = (power_fits c.loop.power c.loop.counter c.loop.invariant.power (omega (arith, c.loop-test.true))).1

pub returns-in-Some-clause-narrowest : goal.returns-in-Some-clause-narrowest
returns-in-Some-clause-narrowest c = narrowest_is (c.args.least, c.args.greatest) c.args.columns c.loop.power c.loop.counter c.in-Some.many c.loop.invariant.power c.loop.invariant.before c.in-Some.ensures

pub returns-in-Some-clause-some : goal.returns-in-Some-clause-some
returns-in-Some-clause-some c =
    let fits = power_fits c.loop.power c.loop.counter c.loop.invariant.power (omega (arith, c.loop-test.true)) in
    narrowest_some (c.args.least, c.args.greatest) c.args.columns c.loop.power c.in-Some.many c.in-Some.ensures fits.0

pub overflow_mul-power : goal.overflow_mul-power
overflow_mul-power c = let fits = power_fits c.loop.power c.loop.counter c.loop.invariant.power (omega (arith, c.loop-test.true)) in omega (arith, fits.2)

pub loop-preserved : goal.loop-preserved
loop-preserved c =
    let extent : ℕ × ℕ = (c.args.least, c.args.greatest) in
    let k = c.loop.counter in
    let is = c.loop.invariant.power in
    record {
      power = ap (λ p. p * 10) is ∙ sym (pow_more 10 k);
      before = λ q times below step. elim (either q k) [
        | inl same ↦ subst (λ n. c.args.columns < count_in extent (times * n)) (is ∙ ap (λ n. 10 ^ n) (sym same)) (c.in-None.ensures times step)
        | inr differ ↦ c.loop.invariant.before q times (omega (arith, below, differ)) step
      ];
    }

pub returns-clause-narrowest : goal.returns-clause-narrowest
returns-clause-narrowest c =
    let extent : ℕ × ℕ = (c.args.least, c.args.greatest) in
    let last : c.loop.counter ≡ 19 = omega (arith, c.loop-test.false) in
    let is : c.loop.power ≡ 10 ^ 19 = c.loop.invariant.power ∙ ap (λ n. 10 ^ n) last in
    let few = few_at_last c.args.least c.args.greatest c.loop.power c.ranges.greatest.fits is in
    narrowest_is extent c.args.columns c.loop.power c.loop.counter c.loop.power c.loop.invariant.power c.loop.invariant.before (first_of extent c.args.columns c.loop.power (omega (arith, few, c.requires)))

pub returns-clause-some : goal.returns-clause-some
returns-clause-some c =
    let last : c.loop.counter ≡ 19 = omega (arith, c.loop-test.false) in
    let is : c.loop.power ≡ 10 ^ 19 = c.loop.invariant.power ∙ ap (λ n. 10 ^ n) last in
    omega (arith, is)
