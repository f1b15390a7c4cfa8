use Rattle.std.proofs.Common.{ap, arith}
use Rattle.std.specs.Prelude.{sum}
use Rattle.std.proofs.lemmas.List.{take_all}
use Rattle.std.proofs.lemmas.List.Sums.{sum_by_more}
use Rattle.bh_look.proofs.times.ranked_grade.Goals as goal
use Rattle.bh_look.proofs.times.ranked_grade.Goals.{else-before-rank-via-then-before-rank+else-numbers-grade-gt0, else-before-rank-via-else-before-rank}

pub returns-then-numbers-grade-gt0-clause-found :
    goal.returns-then-numbers-grade-gt0-clause-found
returns-then-numbers-grade-gt0-clause-found c =
    let more = sum_by_more (λ x. x) c.args.numbers.now c.loop-grade.grade 0 c.loop-grade-test.true in
    record {
      within = c.loop-grade-test.true;
      some = c.if-numbers-grade-gt0.true;
      before = λ pos. omega (arith, c.loop-grade.invariant.under pos, c.loop-grade.invariant.is, c.ranges.rank.fits);
      reached = omega (arith, more, c.if-before-rank.true, c.saturating_add-before.ensures, c.loop-grade.invariant.is);
    }

pub loop-grade-preserved : goal.loop-grade-preserved
loop-grade-preserved c =
    let more = sum_by_more (λ x. x) c.args.numbers.now c.loop-grade.grade 0 c.loop-grade-test.true in
    record {
      is = omega (arith, more, c.saturating_add-before.ensures, c.loop-grade.invariant.is);
      under = λ pos. elim c.else-before-rank.branch [
        | else-before-rank-via-then-before-rank+else-numbers-grade-gt0 w ↦ omega (arith, w.if-numbers-grade-gt0, c.saturating_add-before.ensures, c.loop-grade.invariant.under pos)
        | else-before-rank-via-else-before-rank w ↦ omega (arith, w.if-before-rank)
      ];
    }

pub returns-clause-none : goal.returns-clause-none
returns-clause-none c = λ is pos.
    let all = take_all c.loop-grade.grade c.args.numbers.now c.loop-grade-test.false in
    omega (arith, c.loop-grade.invariant.under pos, c.loop-grade.invariant.is, ap sum all, c.ranges.rank.fits)
