use Rattle.std.proofs.Common.{ap, sym, ◌∙◌, List, slice_set}
use Rattle.bh_lease.specs.declared.lease.Lease.{Lease}
use Rattle.bh_lease.specs.declared.lease.Part.TheVariants as part
use Rattle.bh_lease.specs.Lease.{has_at}
use Rattle.bh_lease.specs.Leases.{IsFirst, LeasesView, told_to_fall_back}
use Rattle.bh_lease.proofs.Lists.{first_told, none_told}
use Rattle.bh_lease.proofs.leases.Leases.fall_back.Goals as goal

pub returns-in_default : goal.returns-in_default
returns-in_default c = ap (λ (xs : List Lease). record c.args.self.now { listed = xs }) (sym (none_told c.args.group c.args.serial c.args.self.now.listed c.in_default.ensures.none))

pub returns : goal.returns
returns c =
    let ls = c.self.inside.listed.items in
    let x = c.index.result.now in
    let first : IsFirst (has_at c.args.group c.args.serial part.Holder) ls c.in-Some.place = rw (← ap (λ (v : LeasesView). v.listed) c.self.view_is) at c.in-Some.ensures.first in
    ap (λ (xs : List Lease). record { listed = xs; contexts = c.self.inside.contexts.items; limit = c.self.inside.limit; most_contexts = c.self.inside.most_contexts; may_tune = c.self.inside.may_tune }) (ap (λ (y : Lease). slice_set ls c.in-Some.place y) c.with.ensures ∙ sym (first_told c.args.group c.args.serial ls c.in-Some.place x first c.index.ensures))
    ∙ ap (λ (v : LeasesView). record v { listed = told_to_fall_back c.args.group c.args.serial v.listed }) c.self.view_is
