use Rattle.std.proofs.Common.{◌≡◌, ◌++◌}
use Rattle.bh_port.specs.Course.{names_in}
use Rattle.bh_props.specs.Shown.{settings_view}
use Rattle.bh_serve.proofs.names.GroupNames.of.Given as goal

abbrev pub invariant-loop-name : goal.invariant-loop-name
invariant-loop-name l = l.listed.items ++ l.name-iterator ≡ (names_in (settings_view l.settings)).groups
