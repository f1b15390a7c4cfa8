-- A mark a round.
use Rattle.std.proofs.Common.{◌≤◌, vec_len}
use Rattle.bh_draw.proofs.axis.Marks.new.Given as goal

abbrev pub invariant-loop : goal.invariant-loop
invariant-loop l = vec_len l.moments ≤ l.counter
