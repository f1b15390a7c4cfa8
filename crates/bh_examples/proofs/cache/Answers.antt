use Rattle.std.proofs.Common.{refl}
use Rattle.bh_examples.proofs.cache.Goals as goal

pub returns-clause-cached_name_shares_a_run_a : goal.returns-clause-cached_name_shares_a_run_a
returns-clause-cached_name_shares_a_run_a c = refl

pub returns-clause-joined_fallback_a : goal.returns-clause-joined_fallback_a
returns-clause-joined_fallback_a c = refl

pub returns-clause-cache_off_a : goal.returns-clause-cache_off_a
returns-clause-cache_off_a c = refl

pub returns-clause-joined_while_queued_a : goal.returns-clause-joined_while_queued_a
returns-clause-joined_while_queued_a c = refl

pub returns-clause-other_key_a : goal.returns-clause-other_key_a
returns-clause-other_key_a c = refl

pub returns-clause-closed_while_held_a : goal.returns-clause-closed_while_held_a
returns-clause-closed_while_held_a c = refl
