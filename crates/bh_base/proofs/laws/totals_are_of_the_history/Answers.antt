use Rattle.bh_base.proofs.Views.{totals_told}
use Rattle.bh_base.proofs.laws.totals_are_of_the_history.Goals as goal

pub returns : goal.returns
returns c = totals_told
