use Rattle.bh_lender.proofs.Logging.{front_logged, stays_lost}
use Rattle.bh_lender.proofs.laws.a_log_is_a_front.Goals as goal

pub returns : goal.returns
returns c = (λ steps l within kept. front_logged steps l within kept, λ steps l lost. stays_lost steps l lost)
