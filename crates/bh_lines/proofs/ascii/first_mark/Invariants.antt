use Rattle.std.proofs.Common.{◌≡◌, ◌+◌, ◌-◌, ◌≤◌, drop}
use Rattle.std.specs.List.{prefix_len}
use Rattle.bh_lines.specs.Ascii.{is_unmarked}
use Rattle.bh_lines.proofs.ascii.first_mark.Given as goal

abbrev pub invariant-loop-place : goal.invariant-loop-place
invariant-loop-place l =
    (prefix_len is_unmarked l.bytes ≡ l.place + prefix_len is_unmarked (drop l.place l.bytes)) × (l.place ≤ l.most)

abbrev pub decreases-loop-place : goal.decreases-loop-place
decreases-loop-place l = l.most - l.place
