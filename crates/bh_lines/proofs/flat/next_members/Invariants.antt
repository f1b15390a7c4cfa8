use Rattle.std.proofs.Common.{List, length}
use Rattle.json.specs.Token.{Token}
use Rattle.bh_lines.specs.Flat.{IsBegun}
use Rattle.bh_lines.proofs.flat.next_members.Given as goal

-- whatever object the members before were of, it is that of these
abbrev pub invariant-loop-name : goal.invariant-loop-name
invariant-loop-name l = (first : List Token) → IsBegun first l.fn.members.items l.fn.reader → IsBegun first l.members.items l.reader

abbrev pub decreases-loop-name : goal.decreases-loop-name
decreases-loop-name l = length l.reader
