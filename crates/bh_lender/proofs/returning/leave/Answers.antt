use Rattle.std.proofs.Common.{◌≡◌, ◌∙◌, false, sym}
use Rattle.std.specs.List.{list_any}
use Rattle.bh_lease.specs.Leases.{IsFirst}
use Rattle.bh_lender.specs.Settling.{counts_more}
use Rattle.bh_lender.proofs.Counting.{first_counts, none_counts}
use Rattle.bh_lender.proofs.returning.leave.Goals as goal

pub returns-in-Some-clause-items : goal.returns-in-Some-clause-items
returns-in-Some-clause-items c =
    let first : IsFirst (counts_more c.args.group c.args.serial) c.args.left.now.items c.in-Some.place = rw c.as_slice.ensures.value at c.in-Some.ensures.first in
    sym (first_counts c.args.group c.args.serial c.args.left.now.items c.in-Some.place c.index-entry.result.now first c.index-entry.ensures)

pub returns-in_default-clause-items : goal.returns-in_default-clause-items
returns-in_default-clause-items c =
    let none : list_any (counts_more c.args.group c.args.serial) c.args.left.now.items ≡ false = rw c.as_slice.ensures.value at c.in_default.ensures.none in
    c.push_within.ensures.items ∙ sym (none_counts c.args.group c.args.serial c.args.left.now.items none)
