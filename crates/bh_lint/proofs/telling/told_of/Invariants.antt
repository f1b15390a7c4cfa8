use Rattle.std.proofs.Common.{◌≡◌, map, take}
use Rattle.bh_lint.proofs.telling.told_of.Given as goal

abbrev pub invariant-loop-finding : goal.invariant-loop-finding
invariant-loop-finding l = map (λ t. t.finding) l.told.items ≡ take l.finding-index l.findings
