use Rattle.std.proofs.Common.{◌≡◌, [], length}
use Rattle.bh_props.specs.Commands.{commands_from}
use Rattle.bh_props.proofs.Further.{IsReached, seen}
use Rattle.bh_props.proofs.commands.commands_of_table.Given as goal

abbrev pub invariant-loop-name : goal.invariant-loop-name
invariant-loop-name l = record {
  can_next : (goal.iterator-loop-name).can_next l.name-iterator;
  finite : (goal.iterator-loop-name).is_finite l.name-iterator;
  groups : length l.gathered.counts.items ≡ length l.names.texts.keys;
  reached : IsReached l.names.texts.keys l.gathered.commands.entries l.name-iterator (commands_from l.names.texts.keys [] (seen l.table.entries));
}
