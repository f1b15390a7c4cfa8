use Rattle.std.proofs.Common.{◌≡◌, vec_len}
use Rattle.bh_audit.proofs.waiting.all_waiting.Given as goal

abbrev pub invariant-loop-made : goal.invariant-loop-made
invariant-loop-made l = vec_len l.all ≡ l.made
