use Rattle.std.proofs.Common.{◌≡◌, ◌++◌}
use Rattle.std.specs.Fmt.{HasWritten, IsPlainFormatter}
use Rattle.bh_props.specs.Commands.{Commands, commands_in}
use Rattle.bh_props.specs.Printed.{further_lines}
use Rattle.bh_props.proofs.print.write_further.Given as goal

abbrev pub invariant-loop-name : goal.invariant-loop-name
invariant-loop-name g l =
    (done : Commands) × (l.commands.entries ≡ done ++ l.name-iterator)
    × (IsPlainFormatter l.initial.f
    → HasWritten g.W.Write.write_str_gives l.initial.f (further_lines l.audit_steps l.props (commands_in l.place done)) l.f)
