use Rattle.std.proofs.Common.{◌≡◌, ◌*◌, ◌/◌, ◌≤◌, Some, ap, arith, subst}
use Rattle.std.proofs.Math.Nat.{div-mul-le_self}
use Rattle.std.proofs.lemmas.Nat.{le-div}
use Rattle.bh_columns.specs.Tracks.{IsIn}
use Rattle.bh_columns.proofs.Within.{covered}
use Rattle.bh_columns.proofs.grid.Grid.take_in.Goals as goal

pub overflow_mul-self : goal.overflow_mul-self
overflow_mul-self c =
    let g = c.args.self.now in
    let is : c.index-last.result * g.width ≡ c.args.to / g.width * g.width = ap (λ k. k * g.width) c.index-last.ensures in
    omega (arith, is, div-mul-le_self c.args.to g.width, c.ranges.to.fits)

pub returns-clause-within : goal.returns-clause-within
returns-clause-within c = λ f within. covered c.args.self.now.extent (Some c.extended-extent.result) c.args.self.now.width f c.extended-extent.ensures.covers within

pub returns-clause-taken : goal.returns-clause-taken
returns-clause-taken c = λ le.
    let g = c.args.self.now in
    let extent = c.extended-extent.result in
    let most : c.args.from / g.width * g.width ≤ c.args.from = div-mul-le_self c.args.from g.width in
    let up : c.args.from / g.width ≤ c.args.to / g.width = le-div (c.args.from / g.width) c.args.to g.width g.some_width (omega (arith, most, le)) in
    let order : c.index-first.result ≤ c.index-last.result = omega (arith, up, c.index-first.ensures, c.index-last.ensures) in
    (subst (λ i. IsIn (Some extent) i) c.index-first.ensures (c.extended-extent.ensures.first order), subst (λ i. IsIn (Some extent) i) c.index-last.ensures (c.extended-extent.ensures.last order))
