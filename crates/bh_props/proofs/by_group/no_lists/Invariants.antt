use Rattle.std.proofs.Common.{◌≡◌, [], length}
use Rattle.bh_props.specs.ByGroup.{AreByGroup}
use Rattle.bh_props.proofs.by_group.no_lists.Given as goal

abbrev pub invariant-loop : goal.invariant-loop
invariant-loop l = record { groups : length l.lists.items ≡ l.counter; empty : AreByGroup [] l.lists.items }
