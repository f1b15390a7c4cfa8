use Rattle.std.proofs.Common.{◌≡◌, ◌+◌, ◌≤◌, ◌++◌, replicate, vec_len, vec_capacity}
use Rattle.bh_slot_arena.proofs.arena.push_copies.Given as goal

abbrev pub invariant-loop : goal.invariant-loop
invariant-loop g l = record {
  items : l.payloads.items ≡ l.fn.payloads.items ++ replicate l.counter l.payload;
  room : vec_len l.payloads + l.count ≤ vec_capacity l.payloads + l.counter;
  same : vec_capacity l.payloads ≡ vec_capacity l.fn.payloads;
}
