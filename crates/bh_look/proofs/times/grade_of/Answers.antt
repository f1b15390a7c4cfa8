use Rattle.std.proofs.Common.{◌≡◌, ◌+◌, ◌-◌, ◌*◌, ◌/◌, ◌^◌, ◌<◌, ◌≤◌, sym, ap, ◌∙◌, subst, arith}
use Rattle.bh_look.specs.Times.{begin}
use Rattle.bh_look.proofs.Grades.{begin-low, begin-rises, graded}
use Rattle.bh_look.proofs.times.grade_of.Goals as goal

pub returns-then-milliseconds-lt-EXACT-clause-from :
    goal.returns-then-milliseconds-lt-EXACT-clause-from
returns-then-milliseconds-lt-EXACT-clause-from c = omega (arith, begin-low c.args.milliseconds (omega (arith, c.if-milliseconds-lt-EXACT.true)))

pub returns-then-milliseconds-lt-EXACT-clause-to :
    goal.returns-then-milliseconds-lt-EXACT-clause-to
returns-then-milliseconds-lt-EXACT-clause-to c = omega (arith, begin-low c.args.milliseconds (omega (arith, c.if-milliseconds-lt-EXACT.true)), begin-rises c.args.milliseconds)

pub returns-clause-from : goal.returns-clause-from
returns-clause-from c =
    let ms = c.args.milliseconds in
    let l = c.ilog2.result in
    let g = graded ms l (omega (arith, c.if-milliseconds-lt-EXACT.false)) c.ilog2.ensures.power_le c.ilog2.ensures.next_power_gt in
    let d_is : c.from.result ≡ l - 7 = c.from.ensures ∙ c.saturating_sub-doubled.ensures in
    let shifted : ms / 2 ^ c.saturating_sub-doubled.result ≡ ms / 2 ^ (l - 7) = ap (λ d. ms / 2 ^ d) c.saturating_sub-doubled.ensures in
    let whole : c.min-within.result ≡ ms / 2 ^ (l - 7) = omega (arith, c.min-within.ensures, shifted, g.to) in
    subst (λ n. begin n ≤ ms) (λ i. sym d_is i * 128 + sym whole i) g.begins

pub returns-clause-to : goal.returns-clause-to
returns-clause-to c =
    let ms = c.args.milliseconds in
    let l = c.ilog2.result in
    let g = graded ms l (omega (arith, c.if-milliseconds-lt-EXACT.false)) c.ilog2.ensures.power_le c.ilog2.ensures.next_power_gt in
    let d_is : c.from.result ≡ l - 7 = c.from.ensures ∙ c.saturating_sub-doubled.ensures in
    let shifted : ms / 2 ^ c.saturating_sub-doubled.result ≡ ms / 2 ^ (l - 7) = ap (λ d. ms / 2 ^ d) c.saturating_sub-doubled.ensures in
    let whole : c.min-within.result ≡ ms / 2 ^ (l - 7) = omega (arith, c.min-within.ensures, shifted, g.to) in
    subst (λ n. ms < begin (n + 1)) (λ i. sym d_is i * 128 + sym whole i) g.ends
