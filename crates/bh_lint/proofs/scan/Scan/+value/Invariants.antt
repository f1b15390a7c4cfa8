use Rattle.std.proofs.Common.{◌+◌, ◌*◌}
use denote.Text.{Utf8}
use denote.Shadow.{shadow}
use Rattle.bh_lint.proofs.scan.Scan.+value.Given as goal

abbrev pub decreases-items : goal.decreases-items
decreases-items l = 3 * l.depth + 2

abbrev pub decreases-members : goal.decreases-members
decreases-members l = 3 * l.depth + 2

abbrev pub decreases-pair : goal.decreases-pair
decreases-pair l = 3 * l.depth + 1

abbrev pub decreases-value : goal.decreases-value
decreases-value l = 3 * l.depth

-- each rest is text
abbrev pub invariant-items-loop : goal.invariant-items-loop
invariant-items-loop l = shadow (Utf8 l.rest)

abbrev pub invariant-members-loop : goal.invariant-members-loop
invariant-members-loop l = shadow (Utf8 l.rest)
