use Rattle.std.proofs.Common.{◌≡◌, ◌<◌, take, min}
use Rattle.std.specs.Prelude.{sum}
use Rattle.bh_look.proofs.times.ranked_grade.Given as goal

abbrev pub invariant-loop-grade : goal.invariant-loop-grade
invariant-loop-grade l = record {
  is : l.before ≡ min (sum (take l.grade l.numbers)) 18_446_744_073_709_551_615;
  under : 0 < l.rank → l.before < l.rank;
}
