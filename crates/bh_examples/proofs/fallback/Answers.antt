use Rattle.std.proofs.Common.{refl}
use Rattle.bh_examples.proofs.fallback.Goals as goal

pub returns-clause-fallback_permits_reject_a : goal.returns-clause-fallback_permits_reject_a
returns-clause-fallback_permits_reject_a c = refl

pub returns-clause-disabled_once_a : goal.returns-clause-disabled_once_a
returns-clause-disabled_once_a c = refl

pub returns-clause-no_permits_a : goal.returns-clause-no_permits_a
returns-clause-no_permits_a c = refl

pub returns-clause-permits_of_their_own_a : goal.returns-clause-permits_of_their_own_a
returns-clause-permits_of_their_own_a c = refl

pub returns-clause-missing_throws_a : goal.returns-clause-missing_throws_a
returns-clause-missing_throws_a c = refl
