use Rattle.bh_cut.proofs.Answering.{answered-alike}
use Rattle.bh_cut.proofs.laws.cut_lines_are_answered_alike.Goals as goal

pub returns : goal.returns
returns c = answered-alike
