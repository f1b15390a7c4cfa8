use Rattle.std.proofs.Common.{◌-◌}
use Rattle.bh_sharing.proofs.shared.SharedGroups.expire.Given as goal

abbrev pub decreases-loop-from : goal.decreases-loop-from
decreases-loop-from g l = l.groups - l.from
