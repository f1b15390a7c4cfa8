use Rattle.std.proofs.Common.{◌≡◌, Some, sum, min, max, refl, sym, ap, subst, arith}
use Rattle.bh_look.specs.Times.{AreTimes, TimesView, TellsRank, least_of, most_of}
use Rattle.bh_look.specs.Inside.{IsRanked, times_of}
use Rattle.bh_look.proofs.Kept.{all_counted, none_told, some_told}
use Rattle.bh_look.proofs.times.Times.ranked.Goals as goal

pub returns-in_err-grade : goal.returns-in_err-grade
returns-in_err-grade c = λ ts are le pos.
    let v : TimesView = times_of c.self.inside in
    let mine : AreTimes ts v = subst (λ x. AreTimes ts x) (sym c.self.view_is) are in
    subst (λ told. TellsRank c.args.rank ts told) (sym c.from_residual.ensures)
    (none_told ts c.args.rank (λ some. omega (arith, le, c.in_err-grade.ensures.none refl (pos some), all_counted ts v mine, ap sum c.deref.ensures.value)))

pub returns : goal.returns
returns c = λ ts are le pos.
    let v : TimesView = times_of c.self.inside in
    let mine : AreTimes ts v = subst (λ x. AreTimes ts x) (sym c.self.view_is) are in
    let at : IsRanked c.args.rank c.in_ok-grade.grade v.numbers = subst (λ xs. IsRanked c.args.rank c.in_ok-grade.grade xs) c.deref.ensures.value c.in_ok-grade.ensures.found in
    let is : c.min.result ≡ min (max c.time_of-time.result (least_of ts)) (most_of ts) = omega (arith, c.min.ensures, c.max.ensures, mine.least, mine.most) in
    subst (λ told. TellsRank c.args.rank ts (Some told)) (sym is) (some_told ts v c.args.rank c.in_ok-grade.grade c.time_of-time.result mine le at c.time_of-time.ensures)
