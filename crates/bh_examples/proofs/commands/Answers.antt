use Rattle.std.proofs.Common.{refl}
use Rattle.bh_examples.proofs.commands.Goals as goal

pub returns-clause-circuits_are_the_commands_a : goal.returns-clause-circuits_are_the_commands_a
returns-clause-circuits_are_the_commands_a c = refl

pub returns-clause-pool_is_of_the_thread_commands_a : goal.returns-clause-pool_is_of_the_thread_commands_a
returns-clause-pool_is_of_the_thread_commands_a c = refl

pub returns-clause-timeouts_are_the_commands_a : goal.returns-clause-timeouts_are_the_commands_a
returns-clause-timeouts_are_the_commands_a c = refl

pub returns-clause-unknown_commands_take_no_step_a : goal.returns-clause-unknown_commands_take_no_step_a
returns-clause-unknown_commands_take_no_step_a c = refl
