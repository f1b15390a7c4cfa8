use Rattle.std.proofs.Common.{◌≡◌, ◌≤◌, length, slice_get, drop}
use Rattle.bh_slot_arena.specs.Slots.{slots_on}
use Rattle.bh_tickets.specs.Changes.{is_due_by}
use Rattle.bh_tickets.specs.GroupSlots.{any_at}
use Rattle.bh_tickets.proofs.walks.any_due_on.Given as goal

abbrev pub invariant-loop : goal.invariant-loop
invariant-loop l = record {
  end : l.end ≡ length (slots_on l.arena 0 l.list);
  here : l.counter ≤ length (slots_on l.arena 0 l.list);
  ahead : l.ahead ≡ slice_get (slots_on l.arena 0 l.list) l.counter;
  rest : any_at (is_due_by l.due) l.arena.payloads (slots_on l.arena 0 l.list) ≡ any_at (is_due_by l.due) l.arena.payloads (drop l.counter (slots_on l.arena 0 l.list));
}
