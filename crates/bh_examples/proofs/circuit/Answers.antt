use Rattle.std.proofs.Common.{refl}
use Rattle.bh_examples.proofs.circuit.Goals as goal

pub returns-clause-failures_open_one_circuit_a : goal.returns-clause-failures_open_one_circuit_a
returns-clause-failures_open_one_circuit_a c = refl

pub returns-clause-failures_open_one_circuit_b : goal.returns-clause-failures_open_one_circuit_b
returns-clause-failures_open_one_circuit_b c = refl

pub returns-clause-sleep_window_admits_one_test_a : goal.returns-clause-sleep_window_admits_one_test_a
returns-clause-sleep_window_admits_one_test_a c = refl

pub returns-clause-bad_test_keeps_its_opening_a : goal.returns-clause-bad_test_keeps_its_opening_a
returns-clause-bad_test_keeps_its_opening_a c = refl

pub returns-clause-rejected_test_opens_anew_a : goal.returns-clause-rejected_test_opens_anew_a
returns-clause-rejected_test_opens_anew_a c = refl

pub returns-clause-rejected_test_opens_anew_b : goal.returns-clause-rejected_test_opens_anew_b
returns-clause-rejected_test_opens_anew_b c = refl

pub returns-clause-forced_open_without_fallback_a : goal.returns-clause-forced_open_without_fallback_a
returns-clause-forced_open_without_fallback_a c = refl

pub returns-clause-snapshot_lasts_its_interval_a : goal.returns-clause-snapshot_lasts_its_interval_a
returns-clause-snapshot_lasts_its_interval_a c = refl

pub returns-clause-empty_health_opens_a : goal.returns-clause-empty_health_opens_a
returns-clause-empty_health_opens_a c = refl

pub returns-clause-empty_health_opens_b : goal.returns-clause-empty_health_opens_b
returns-clause-empty_health_opens_b c = refl

pub returns-clause-test_rejected_a : goal.returns-clause-test_rejected_a
returns-clause-test_rejected_a c = refl

pub returns-clause-full_asks_nothing_a : goal.returns-clause-full_asks_nothing_a
returns-clause-full_asks_nothing_a c = refl

pub returns-clause-closing_drops_snapshot_a : goal.returns-clause-closing_drops_snapshot_a
returns-clause-closing_drops_snapshot_a c = refl

pub returns-clause-forced_a : goal.returns-clause-forced_a
returns-clause-forced_a c = refl

pub returns-clause-forced_b : goal.returns-clause-forced_b
returns-clause-forced_b c = refl

pub returns-clause-forced_closed_a : goal.returns-clause-forced_closed_a
returns-clause-forced_closed_a c = refl
