use Rattle.std.proofs.Common.{◌≡◌, ◌++◌}
use Rattle.toml.specs.View.{members_view}
use Rattle.bh_lint.specs.Table.{knows}
use Rattle.bh_lint.specs.Findings.{unknown_members}
use Rattle.bh_lint.proofs.unknown.add_members.Given as goal

abbrev pub invariant-loop-key : goal.invariant-loop-key
invariant-loop-key l =
    (goal.iterator-loop-key).can_next l.key-iterator × (goal.iterator-loop-key).is_finite l.key-iterator
    × (l.findings.items ++ unknown_members (knows l.names.texts.keys l.commands.entries l.table) l.table l.name (members_view l.key-iterator)
    ≡ l.initial.findings.items ++ unknown_members (knows l.names.texts.keys l.commands.entries l.table) l.table l.name (members_view l.members.entries))
