use Rattle.std.proofs.Common.{◌∙◌, sym, ap, arith}
use Rattle.bh_look.specs.Steps.{with_told}
use Rattle.bh_look.proofs.Adding.{told_at, told_past}
use Rattle.bh_look.proofs.making.add_told.Goals as goal

pub returns-in_default : goal.returns-in_default
returns-in_default c = λ k lane at. (lane, at, ap (λ o. with_told o c.args.kind k lane.tally) (sym c.in_default.is))

pub returns-in_default-kind : goal.returns-in_default-kind
returns-in_default-kind c = λ k lane at. (lane, at, (λ i. with_told (sym c.in-Some.is i) (sym c.in_default-kind.is i) k lane.tally))

pub returns-then-place-lanes : goal.returns-then-place-lanes
returns-then-place-lanes c = λ k lane at.
    let (x, found, is) = told_at c.args.lanes.now c.in-Some.command k c.in-Some-kind.kind c.index-lanes-place.result _ lane (omega (arith, c.if-place-lanes.true)) c.count.ensures at in
    (x, found, is ∙ (λ i. with_told (sym c.in-Some.is i) (sym c.in-Some-kind.is i) k lane.tally))

pub returns-else-place-lanes : goal.returns-else-place-lanes
returns-else-place-lanes c = λ k lane at.
    (lane, at, told_past c.args.lanes.now c.in-Some.command k c.in-Some-kind.kind lane (omega (arith, c.if-place-lanes.false)) at ∙ (λ i. with_told (sym c.in-Some.is i) (sym c.in-Some-kind.is i) k lane.tally))
