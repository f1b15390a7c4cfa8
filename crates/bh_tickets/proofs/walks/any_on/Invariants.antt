use Rattle.std.proofs.Common.{◌≡◌, ◌≤◌, Bool, length, slice_get, drop}
use Rattle.std.specs.Fn.{FnReturnsAt}
use Rattle.bh_base.specs.declared.ticket.Ticket.{Ticket}
use Rattle.bh_slot_arena.specs.Slots.{slots_on}
use Rattle.bh_tickets.specs.GroupSlots.{any_at}
use Rattle.bh_tickets.proofs.walks.any_on.Given as goal

abbrev pub invariant-loop : goal.invariant-loop
invariant-loop g l = record {
  end : l.end ≡ length (slots_on l.arena 0 l.list);
  here : l.counter ≤ length (slots_on l.arena 0 l.list);
  ahead : l.ahead ≡ slice_get (slots_on l.arena 0 l.list) l.counter;
  rest : (p : Ticket → Bool) → ((t : Ticket) (b : Bool) → FnReturnsAt (g.F.Fn) l.test t b → b ≡ p t) → any_at p l.arena.payloads (slots_on l.arena 0 l.list) ≡ any_at p l.arena.payloads (drop l.counter (slots_on l.arena 0 l.list));
}
