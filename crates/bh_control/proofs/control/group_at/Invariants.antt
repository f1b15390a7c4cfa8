use Rattle.std.proofs.Common.{◌≡◌, drop}
use Rattle.std.specs.List.{position_from}
use Rattle.std.specs.Str.{bytes_eq}
use Rattle.bh_lines.specs.StepLine.{group_number}
use Rattle.bh_control.proofs.control.group_at.Given as goal

abbrev pub invariant-loop-i : goal.invariant-loop-i
invariant-loop-i l =
    position_from (λ n. bytes_eq n l.name) l.i (drop l.i l.names) ≡ group_number l.names l.name
