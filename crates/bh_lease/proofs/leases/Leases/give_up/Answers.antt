use Rattle.std.proofs.Common.{◌≡◌, ap, sym, ◌∙◌, false, true, List, slice_set}
use Rattle.bh_lease.specs.declared.lease.Lease.{Lease}
use Rattle.bh_lease.specs.Lease.{has_at, is_over, with_part}
use Rattle.bh_lease.specs.Leases.{IsFirst, LeasesView, given_up}
use Rattle.bh_lease.proofs.Lists.{given_up_part, given_up_whole, none_given_up}
use Rattle.bh_lease.proofs.leases.Leases.give_up.Goals as goal

pub returns-in_default : goal.returns-in_default
returns-in_default c = ap (λ (xs : List Lease). record c.args.self.now { listed = xs }) (sym (none_given_up c.args.group c.args.serial c.args.part c.args.self.now.listed c.in_default.ensures.none))

pub returns-then-is_over : goal.returns-then-is_over
returns-then-is_over c =
    let ls = c.self.inside.listed.items in
    let x = c.index.result.now in
    let over : is_over (with_part c.args.part false x) ≡ true = sym (ap is_over c.with-lease.ensures) ∙ sym c.is_over.ensures ∙ c.if-is_over.true in
    let first : IsFirst (has_at c.args.group c.args.serial c.args.part) ls c.in-Some.place = rw (← ap (λ (v : LeasesView). v.listed) c.self.view_is) at c.in-Some.ensures.first in
    ap (λ (xs : List Lease). record { listed = xs; contexts = c.self.inside.contexts.items; limit = c.self.inside.limit; most_contexts = c.self.inside.most_contexts; may_tune = c.self.inside.may_tune }) (c.remove.ensures.items ∙ sym (given_up_whole c.args.group c.args.serial c.args.part ls c.in-Some.place x first c.index.ensures over))
    ∙ ap (λ (v : LeasesView). record v { listed = given_up c.args.group c.args.serial c.args.part v.listed }) c.self.view_is

pub returns-else-is_over : goal.returns-else-is_over
returns-else-is_over c =
    let ls = c.self.inside.listed.items in
    let x = c.index.result.now in
    let over : is_over (with_part c.args.part false x) ≡ false = sym (ap is_over c.with-lease.ensures) ∙ sym c.is_over.ensures ∙ c.if-is_over.false in
    let first : IsFirst (has_at c.args.group c.args.serial c.args.part) ls c.in-Some.place = rw (← ap (λ (v : LeasesView). v.listed) c.self.view_is) at c.in-Some.ensures.first in
    ap (λ (xs : List Lease). record { listed = xs; contexts = c.self.inside.contexts.items; limit = c.self.inside.limit; most_contexts = c.self.inside.most_contexts; may_tune = c.self.inside.may_tune }) (ap (λ (y : Lease). slice_set ls c.in-Some.place y) c.with-lease.ensures ∙ sym (given_up_part c.args.group c.args.serial c.args.part ls c.in-Some.place x first c.index.ensures over))
    ∙ ap (λ (v : LeasesView). record v { listed = given_up c.args.group c.args.serial c.args.part v.listed }) c.self.view_is
