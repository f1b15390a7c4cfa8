use Rattle.std.proofs.Common.{◌≡◌, take}
use Rattle.bh_props.specs.Commands.{Commands}
use Rattle.bh_props.specs.ByGroup.{AreByGroup}
use Rattle.bh_props.specs.Subjects.{subjects}
use Rattle.bh_props.proofs.subject.subjects.Given as goal

abbrev pub invariant-loop-place : goal.invariant-loop-place
invariant-loop-place l = (commands : Commands) → AreByGroup commands l.further → l.subjects.items ≡ subjects (take l.place l.names) commands
