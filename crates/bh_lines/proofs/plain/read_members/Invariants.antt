use Rattle.std.proofs.Common.{◌-◌, length}
use Rattle.bh_lines.specs.Plain.{IsNamed}
use Rattle.bh_lines.proofs.plain.read_members.Given as goal

-- what is left of the line goes on with another member
abbrev pub invariant-loop-follows : goal.invariant-loop-follows
invariant-loop-follows g l = IsNamed l.line l.members.items l.start

abbrev pub decreases-loop-follows : goal.decreases-loop-follows
decreases-loop-follows g l = 8 - length l.members.items
