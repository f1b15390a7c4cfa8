use Rattle.std.proofs.Common.{◌≡◌, ◌++◌, map, take}
use Rattle.bh_props.specs.Subjects.{a_command}
use Rattle.bh_props.proofs.subject.push_further.Given as goal

abbrev pub invariant-loop-command : goal.invariant-loop-command
invariant-loop-command l =
    l.subjects.items ≡ l.initial.subjects.items ++ map (λ c. a_command c.0) (take l.command-index l.further)
