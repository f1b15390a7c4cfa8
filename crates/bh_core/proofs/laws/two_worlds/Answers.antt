use Rattle.bh_core.proofs.TwoWorlds.{end_alike}
use Rattle.bh_core.proofs.laws.two_worlds.Goals as goal

pub returns : goal.returns
returns c = end_alike
