use Rattle.json.specs.Print.{escape_byte}
use Rattle.bh_replies.proofs.replies.fallback_value_back.Goals as goal

pub returns-in-ShortCircuited-clause-text : goal.returns-in-ShortCircuited-clause-text
unfolding escape_byte
returns-in-ShortCircuited-clause-text c = rw c.in-ShortCircuited.is

pub returns-in-PoolRejected-clause-text : goal.returns-in-PoolRejected-clause-text
unfolding escape_byte
returns-in-PoolRejected-clause-text c = rw c.in-PoolRejected.is

pub returns-in-SemaphoreRejected-clause-text : goal.returns-in-SemaphoreRejected-clause-text
unfolding escape_byte
returns-in-SemaphoreRejected-clause-text c = rw c.in-SemaphoreRejected.is

pub returns-in-Failure-clause-text : goal.returns-in-Failure-clause-text
unfolding escape_byte
returns-in-Failure-clause-text c = rw c.in-Failure.is

pub returns-in-Timeout-clause-text : goal.returns-in-Timeout-clause-text
unfolding escape_byte
returns-in-Timeout-clause-text c = rw c.in-Timeout.is
