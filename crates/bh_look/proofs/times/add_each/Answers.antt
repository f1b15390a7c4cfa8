use Rattle.std.proofs.Common.{◌≡◌, ◌+◌, ◌<◌, ◌≤◌, ◌∙◌, sym, ap, subst, min, get_or, ⊎_elim, arith}
use Rattle.std.proofs.lemmas.Bool.{cases_lt}
use Rattle.std.proofs.lemmas.List.{get_or-set_other, get_or_past}
use Rattle.bh_look.proofs.Counts.{written}
use Rattle.bh_look.proofs.times.add_each.Goals as goal

pub loop-grade-preserved : goal.loop-grade-preserved
loop-grade-preserved c =
    let xs = c.loop-grade.numbers in
    let n = c.loop-grade.grade in
    record {
      done = λ k below fits. ⊎_elim
          (λ (less : k < n). ap (λ l. get_or l k 0) c.add_to.ensures ∙ get_or-set_other xs n k _ 0 (λ is. absurd (omega (arith, less, is))) ∙ c.loop-grade.invariant.done k less fits)
          (λ (last : n ≤ k).
          let is : k ≡ n = omega (arith, below, last) in
          let was : get_or xs n 0 ≡ get_or c.args.numbers.now n 0 = c.loop-grade.invariant.rest n (omega arith) in
          let at_n : get_or c.add_to.new.numbers n 0 ≡ get_or c.args.numbers.now n 0 + get_or c.args.others.now n 0 =
          ap (λ l. get_or l n 0) c.add_to.ensures ∙ written xs n (get_or c.args.numbers.now n 0) (get_or c.args.others.now n 0) _ (omega (arith, c.loop-grade-test.true, c.requires, c.loop-grade.auto.numbers)) was (ap (λ m. min (m + get_or c.args.others.now n 0) 18_446_744_073_709_551_615) was) (subst (λ m. get_or c.args.numbers.now m 0 + get_or c.args.others.now m 0 < 18_446_744_073_709_551_616) is fits) in
          subst (λ m. get_or c.add_to.new.numbers m 0 ≡ get_or c.args.numbers.now m 0 + get_or c.args.others.now m 0) (sym is) at_n)
          (cases_lt k n);
      rest = λ k past. ap (λ l. get_or l k 0) c.add_to.ensures ∙ get_or-set_other xs n k _ 0 (λ is. absurd (omega (arith, past, is))) ∙ c.loop-grade.invariant.rest k (omega (arith, past));
    }

pub returns-clause-each : goal.returns-clause-each
returns-clause-each c = λ k fits. ⊎_elim
    (λ (less : k < c.loop-grade.grade). c.loop-grade.invariant.done k less fits)
    (λ (past : c.loop-grade.grade ≤ k). omega (arith, c.loop-grade.invariant.rest k past, get_or_past c.args.others.now k 0 (omega (arith, past, c.loop-grade-test.false))))
    (cases_lt k c.loop-grade.grade)
