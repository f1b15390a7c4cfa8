use Rattle.std.proofs.Common.{refl}
use Rattle.bh_examples.proofs.timeouts.Goals as goal

pub returns-clause-timed_out_run_stays_busy_a : goal.returns-clause-timed_out_run_stays_busy_a
returns-clause-timed_out_run_stays_busy_a c = refl

pub returns-clause-queued_tickets_time_out_a : goal.returns-clause-queued_tickets_time_out_a
returns-clause-queued_tickets_time_out_a c = refl

pub returns-clause-timed_out_test_opens_anew_a : goal.returns-clause-timed_out_test_opens_anew_a
returns-clause-timed_out_test_opens_anew_a c = refl

pub returns-clause-late_test_a : goal.returns-clause-late_test_a
returns-clause-late_test_a c = refl

pub returns-clause-busy_alone_keeps_a : goal.returns-clause-busy_alone_keeps_a
returns-clause-busy_alone_keeps_a c = refl
