use Rattle.std.proofs.Common.{◌≡◌, ◌<◌, ap, arith, length, List, sym, ◌∙◌}
use Rattle.bh_lease.specs.declared.lease.Lease.{Lease}
use Rattle.bh_lease.specs.Lease.{has_at}
use Rattle.bh_lease.specs.Leases.{LeasesView}
use Rattle.bh_lease.proofs.Lists.{fail_up_to, first_at, none_passes}
use Rattle.bh_lease.proofs.leases.Leases.find.Goals as goal

pub returns-then-has_at-clause-first : goal.returns-then-has_at-clause-first
returns-then-has_at-clause-first c =
    let same : c.deref-lease-items.result.now ≡ c.args.self.now.listed = c.deref-lease-items.ensures.value ∙ ap (λ (v : LeasesView). v.listed) c.self.view_is in
    let within : c.loop-place.place < length c.args.self.now.listed = omega (arith, c.loop-place-test.true, ap (λ (xs : List Lease). length xs) same) in
    first_at (has_at c.args.group c.args.serial c.args.part) c.args.self.now.listed c.loop-place.place _ c.loop-place.invariant within
    (rw same at (sym c.has_at.ensures ∙ c.if-has_at.true))

pub loop-place-preserved : goal.loop-place-preserved
loop-place-preserved c =
    let same : c.deref-lease-items.result.now ≡ c.args.self.now.listed = c.deref-lease-items.ensures.value ∙ ap (λ (v : LeasesView). v.listed) c.self.view_is in
    let within : c.loop-place.place < length c.args.self.now.listed = omega (arith, c.loop-place-test.true, ap (λ (xs : List Lease). length xs) same) in
    fail_up_to (has_at c.args.group c.args.serial c.args.part) c.args.self.now.listed c.loop-place.place _ c.loop-place.invariant within
    (rw same at (sym c.has_at.ensures ∙ c.if-has_at.false))

pub returns-clause-none : goal.returns-clause-none
returns-clause-none c =
    let same : c.deref-lease-items.result.now ≡ c.args.self.now.listed = c.deref-lease-items.ensures.value ∙ ap (λ (v : LeasesView). v.listed) c.self.view_is in
    none_passes (has_at c.args.group c.args.serial c.args.part) c.args.self.now.listed (λ j lt. c.loop-place.invariant j (omega (arith, lt, c.loop-place-test.false, ap (λ (xs : List Lease). length xs) same)))
