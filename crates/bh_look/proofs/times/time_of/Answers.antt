use Rattle.std.proofs.Common.{◌-◌, ◌/◌, arith}
use Rattle.std.proofs.lemmas.Nat.{pow_pos}
use Rattle.bh_look.proofs.Grades.{begin-high, exact_near, middle_fits, middle_is, middle_near}
use Rattle.bh_look.proofs.times.time_of.Goals as goal

pub returns-then-grade-lt-EXACT : goal.returns-then-grade-lt-EXACT
returns-then-grade-lt-EXACT c = λ x from to. exact_near c.args.grade x (omega (arith, c.if-grade-lt-EXACT.true)) from to

pub overflow_add-result-2 : goal.overflow_add-result-2
overflow_add-result-2 c =
    let is = middle_is c.args.grade c.requires in
    omega (arith, middle_fits c.args.grade c.requires, is.0, is.1, pow_pos (c.args.grade / 128 - 1))

pub returns : goal.returns
returns c = λ x from to.
    let g = c.args.grade in
    let high = c.if-grade-lt-EXACT.false in
    let is = middle_is g c.requires in
    middle_near g x _ high from to (omega (arith, is.0, is.1, begin-high g high))
