use Rattle.std.proofs.Common.{◌≡◌, ◌-◌, length}
use Rattle.bh_slot_arena.specs.Lists.{appended, list_at}
use Rattle.bh_slot_arena.proofs.family.Family.append.Given as goal

-- what is left to be appended gives what the whole list gives
abbrev pub invariant-loop : goal.invariant-loop
invariant-loop l = record {
  slots : l.self.slots ≡ l.fn.self.slots;
  room : l.self.room ≡ l.fn.self.room;
  count : length l.self.lists ≡ length l.fn.self.lists;
  left : length (list_at l.self.lists l.from) ≡ l.end - l.counter;
  appended : appended l.from l.to l.self.lists ≡ appended l.from l.to l.fn.self.lists;
}
