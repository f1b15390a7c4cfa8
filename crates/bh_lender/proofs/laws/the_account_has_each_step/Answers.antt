use Rattle.bh_lender.proofs.Accounting.{are_entered, stays_plain}
use Rattle.bh_lender.proofs.laws.the_account_has_each_step.Goals as goal

pub returns : goal.returns
returns c = (λ old made new so audited agree. are_entered old made new so audited agree, λ old made new so plain. stays_plain old made new so plain)
