use Rattle.bh_lender.proofs.Logging.{return_steps, turn_steps}
use Rattle.bh_lender.proofs.laws.turns_are_steps.Goals as goal

pub returns : goal.returns
returns c = (λ step reply old new does. turn_steps step reply old new does, λ now leases old new given. return_steps now leases old new given)
