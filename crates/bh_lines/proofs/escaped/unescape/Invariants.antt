use Rattle.std.proofs.Common.{◌≡◌, ◌-◌, ◌≤◌, length, take}
use Rattle.bh_lines.specs.Plain.{SaysTo}
use Rattle.bh_lines.proofs.escaped.unescape.Given as goal

-- what is put is what the text says up to the place
abbrev pub invariant-loop-len : goal.invariant-loop-len
invariant-loop-len l = SaysTo l.line l.start (take l.len l.room) l.place × (l.place ≤ length l.line) × (l.len ≤ length l.room) × (length l.room ≡ length l.initial.room)

abbrev pub decreases-loop-len : goal.decreases-loop-len
decreases-loop-len l = length l.line - l.place
