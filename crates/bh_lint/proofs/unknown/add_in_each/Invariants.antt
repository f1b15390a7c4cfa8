use Rattle.std.proofs.Common.{◌≡◌, ◌++◌, take}
use Rattle.std.specs.List.{flat_map}
use Rattle.toml.specs.View.{view}
use Rattle.bh_lint.specs.Table.{knows_in}
use Rattle.bh_lint.specs.Findings.{unknown_in}
use Rattle.bh_lint.proofs.unknown.add_in_each.Given as goal

abbrev pub invariant-loop-table : goal.invariant-loop-table
invariant-loop-table l = l.findings.items ≡ l.initial.findings.items ++ flat_map (unknown_in (knows_in l.names.texts.keys l.commands.entries) (view l.root) l.name) (take l.table-index l.tables)
