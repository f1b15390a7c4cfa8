use Rattle.std.proofs.Common.{◌≡◌, ◌+◌, ◌≤◌, ◌++◌, replicate, vec_len, vec_capacity}
use Rattle.bh_index_lists.specs.Lists.{no_list}
use Rattle.bh_slot_arena.proofs.family.add_heads.Given as goal

abbrev pub invariant-loop : goal.invariant-loop
invariant-loop l = record {
  items : l.heads.items ≡ l.fn.heads.items ++ replicate l.counter no_list;
  room : vec_len l.heads + l.count ≤ vec_capacity l.heads + l.counter;
}
