use Rattle.std.proofs.Common.{◌+◌, ◌/◌, ◌%◌, sym, subst, arith}
use Rattle.bh_look.specs.Times.{AreTimes, TellsRank}
use Rattle.bh_look.specs.Inside.{times_of}
use Rattle.bh_look.proofs.times.Times.median.Goals as goal

pub returns : goal.returns
returns c = λ ts are.
    let mine : AreTimes ts (times_of c.self.inside) = subst (λ v. AreTimes ts v) (sym c.self.view_is) are in
    subst (λ n. TellsRank (n / 2 + n % 2) ts c.ranked.result) mine.count (c.ranked.ensures ts are (omega (arith, mine.count)) (λ some. omega (arith, mine.count, some)))
