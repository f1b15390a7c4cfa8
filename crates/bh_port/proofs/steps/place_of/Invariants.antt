use Rattle.std.proofs.Common.{◌≡◌, map}
use Rattle.std.specs.List.{position_from}
use Rattle.std.specs.Str.{bytes_eq}
use Rattle.bh_lines.specs.StepLine.{group_number}
use Rattle.bh_port.proofs.steps.place_of.Given as goal

abbrev pub invariant-loop-i : goal.invariant-loop-i
invariant-loop-i l =
    position_from (λ n. bytes_eq n l.name) l.i-iterator.count l.i-iterator.iter ≡ group_number (map (λ group. group.0) l.groups.entries) l.name
