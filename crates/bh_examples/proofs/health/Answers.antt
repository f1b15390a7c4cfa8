use Rattle.std.proofs.Common.{refl}
use Rattle.bh_examples.proofs.health.Goals as goal

pub returns-clause-counts_leave_with_their_bucket_a : goal.returns-clause-counts_leave_with_their_bucket_a
returns-clause-counts_leave_with_their_bucket_a c = refl

pub returns-clause-percent_floor_a : goal.returns-clause-percent_floor_a
returns-clause-percent_floor_a c = refl

pub returns-clause-percent_floor_b : goal.returns-clause-percent_floor_b
returns-clause-percent_floor_b c = refl

pub returns-clause-bad_is_no_health_a : goal.returns-clause-bad_is_no_health_a
returns-clause-bad_is_no_health_a c = refl

pub returns-clause-semaphore_health_a : goal.returns-clause-semaphore_health_a
returns-clause-semaphore_health_a c = refl

pub returns-clause-latest_moment_stays_a : goal.returns-clause-latest_moment_stays_a
returns-clause-latest_moment_stays_a c = refl

pub returns-clause-each_group_has_its_moments_a : goal.returns-clause-each_group_has_its_moments_a
returns-clause-each_group_has_its_moments_a c = refl

pub returns-clause-each_group_has_its_moments_b : goal.returns-clause-each_group_has_its_moments_b
returns-clause-each_group_has_its_moments_b c = refl
