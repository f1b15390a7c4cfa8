use Rattle.bh_lender.proofs.Logging.{are_logged}
use Rattle.bh_lender.proofs.laws.steps_are_logged.Goals as goal

pub returns : goal.returns
returns c = λ old made new so. are_logged old made new so
