use Rattle.std.proofs.Common.{take}
use Rattle.std.specs.Fmt.{HasWritten, IsPlainFormatter}
use Rattle.bh_props.specs.Printed.{further_lines}
use Rattle.bh_props.proofs.print.write_listed.Given as goal

abbrev pub invariant-loop-command : goal.invariant-loop-command
invariant-loop-command g l =
    IsPlainFormatter l.initial.f
    → HasWritten g.W.Write.write_str_gives l.initial.f (further_lines l.audit_steps l.props (take l.command-index l.further)) l.f
