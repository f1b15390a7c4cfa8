use Rattle.std.proofs.Common.{refl}
use Rattle.bh_examples.proofs.totals.Goals as goal

pub returns-clause-counted_beyond_the_window_a : goal.returns-clause-counted_beyond_the_window_a
returns-clause-counted_beyond_the_window_a c = refl

pub returns-clause-counted_over_a_closing_a : goal.returns-clause-counted_over_a_closing_a
returns-clause-counted_over_a_closing_a c = refl

pub returns-clause-totals_are_the_commands_a : goal.returns-clause-totals_are_the_commands_a
returns-clause-totals_are_the_commands_a c = refl
