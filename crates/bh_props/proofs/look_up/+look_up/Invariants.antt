use Rattle.std.proofs.Common.{length}
use Rattle.bh_props.proofs.look_up.+look_up.Given as goal

abbrev pub decreases-look_up : goal.decreases-look_up
decreases-look_up l = length l.name.now
