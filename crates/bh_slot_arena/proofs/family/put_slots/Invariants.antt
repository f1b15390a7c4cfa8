use Rattle.std.proofs.Common.{◌≡◌, ◌+◌, ◌-◌, ◌≤◌, length, map, vec_capacity}
use Rattle.std.specs.List.{range_with_len}
use Rattle.bh_index_lists.specs.Lists.{list_of}
use Rattle.bh_slot_arena.specs.Lists.{put_last}
use Rattle.bh_slot_arena.specs.Nodes.{AreLinked, links_of}
use Rattle.bh_slot_arena.proofs.family.put_slots.Given as goal

abbrev pub invariant-loop-slot : goal.invariant-loop-slot
invariant-loop-slot l = record {
  sound : AreLinked l.nodes.items l.heads;
  slots : length l.nodes.items ≡ l.slot;
  room : l.first + l.count ≤ vec_capacity l.nodes;
  same : vec_capacity l.nodes ≡ vec_capacity l.fn.nodes;
  lists : map (list_of (links_of l.nodes.items)) l.heads ≡ put_last (range_with_len l.first (l.slot - l.first)) l.list (map (list_of (links_of l.fn.nodes.items)) l.fn.heads);
}
