use Rattle.std.proofs.Common.{take}
use Rattle.std.specs.List.{flat_map}
use Rattle.std.specs.Fmt.{HasWritten, IsPlainFormatter}
use Rattle.bh_props.specs.Printed.{property_line, value_of}
use Rattle.bh_props.proofs.print.write_lines.Given as goal

abbrev pub invariant-loop-property : goal.invariant-loop-property
invariant-loop-property g l =
    IsPlainFormatter l.initial.f
    → HasWritten g.W.Write.write_str_gives l.initial.f (flat_map (property_line l.name (value_of l.audit_steps l.props l.command)) (take l.property-index l.properties)) l.f
