use Rattle.std.proofs.Common.{refl}
use Rattle.bh_examples.proofs.admission.Goals as goal

pub returns-clause-two_groups_one_ticket_each_a : goal.returns-clause-two_groups_one_ticket_each_a
returns-clause-two_groups_one_ticket_each_a c = refl

pub returns-clause-two_groups_one_ticket_each_b : goal.returns-clause-two_groups_one_ticket_each_b
returns-clause-two_groups_one_ticket_each_b c = refl

pub returns-clause-first_path_a : goal.returns-clause-first_path_a
returns-clause-first_path_a c = refl

pub returns-clause-pool_without_queue_rejects_a : goal.returns-clause-pool_without_queue_rejects_a
returns-clause-pool_without_queue_rejects_a c = refl

pub returns-clause-threshold_bounds_the_queue_a : goal.returns-clause-threshold_bounds_the_queue_a
returns-clause-threshold_bounds_the_queue_a c = refl

pub returns-clause-permits_and_disabled_fallback_a : goal.returns-clause-permits_and_disabled_fallback_a
returns-clause-permits_and_disabled_fallback_a c = refl

pub returns-clause-permits_and_disabled_fallback_b : goal.returns-clause-permits_and_disabled_fallback_b
returns-clause-permits_and_disabled_fallback_b c = refl

pub returns-clause-full_group_leaves_another_alone_a : goal.returns-clause-full_group_leaves_another_alone_a
returns-clause-full_group_leaves_another_alone_a c = refl

pub returns-clause-full_group_leaves_another_alone_b : goal.returns-clause-full_group_leaves_another_alone_b
returns-clause-full_group_leaves_another_alone_b c = refl

pub returns-clause-full_is_a_step_a : goal.returns-clause-full_is_a_step_a
returns-clause-full_is_a_step_a c = refl

pub returns-clause-full_moves_time_a : goal.returns-clause-full_moves_time_a
returns-clause-full_moves_time_a c = refl

pub returns-clause-queue_lengths_a : goal.returns-clause-queue_lengths_a
returns-clause-queue_lengths_a c = refl

pub returns-clause-queue_lengths_b : goal.returns-clause-queue_lengths_b
returns-clause-queue_lengths_b c = refl

pub returns-clause-worn_at_the_step_limit_a : goal.returns-clause-worn_at_the_step_limit_a
returns-clause-worn_at_the_step_limit_a c = refl

pub returns-clause-worn_at_the_step_limit_b : goal.returns-clause-worn_at_the_step_limit_b
returns-clause-worn_at_the_step_limit_b c = refl
