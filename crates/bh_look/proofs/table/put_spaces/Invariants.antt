use Rattle.std.proofs.Common.{◌≡◌, ◌++◌}
use Rattle.bh_look.specs.Tables.{spaces}
use Rattle.bh_look.proofs.table.put_spaces.Given as goal

abbrev pub invariant-loop : goal.invariant-loop
invariant-loop l = l.out.items ≡ l.initial.out.items ++ spaces l.counter
