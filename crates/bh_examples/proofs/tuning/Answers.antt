use Rattle.std.proofs.Common.{refl}
use Rattle.bh_examples.proofs.tuning.Goals as goal

pub returns-clause-forced_open_and_back_a : goal.returns-clause-forced_open_and_back_a
returns-clause-forced_open_and_back_a c = refl

pub returns-clause-fewer_permits_than_taken_a : goal.returns-clause-fewer_permits_than_taken_a
returns-clause-fewer_permits_than_taken_a c = refl

pub returns-clause-timeout_of_runs_under_way_a : goal.returns-clause-timeout_of_runs_under_way_a
returns-clause-timeout_of_runs_under_way_a c = refl

pub returns-clause-smaller_pool_and_back_a : goal.returns-clause-smaller_pool_and_back_a
returns-clause-smaller_pool_and_back_a c = refl

pub returns-clause-out_of_its_range_a : goal.returns-clause-out_of_its_range_a
returns-clause-out_of_its_range_a c = refl

pub returns-clause-tunes_are_the_commands_a : goal.returns-clause-tunes_are_the_commands_a
returns-clause-tunes_are_the_commands_a c = refl

pub returns-clause-open_circuit_off_and_on_a : goal.returns-clause-open_circuit_off_and_on_a
returns-clause-open_circuit_off_and_on_a c = refl

pub returns-clause-cache_off_and_on_a : goal.returns-clause-cache_off_and_on_a
returns-clause-cache_off_and_on_a c = refl
