use Rattle.std.proofs.Common.{◌≡◌, map, take}
use Rattle.bh_core.specs.CoreView.{is_retired}
use Rattle.bh_audit.proofs.account.retirements.Given as goal

abbrev pub invariant-loop-number : goal.invariant-loop-number
invariant-loop-number l = l.retired.items ≡ map is_retired (take l.number l.core.lives)
