use Rattle.std.proofs.Common.{◌≡◌, ◌≤◌, length, map, take, vec_len}
use Rattle.std.specs.Vec.{vec_capacity}
use Rattle.bh_workers.specs.Callers.{first_pass}
use Rattle.bh_workers.proofs.caller_threads.caller_passes.Given as goal

abbrev pub invariant-loop-list : goal.invariant-loop-list
invariant-loop-list g l = record {
  len : vec_len l.passes ≡ l.list-index;
  room : length l.lists ≤ vec_capacity l.passes;
  passes : l.passes.items ≡ map (first_pass l.shared.audited l.room) (take l.list-index l.lists);
}
