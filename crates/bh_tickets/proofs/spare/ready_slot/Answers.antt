use Rattle.std.proofs.Common.{inl, inr, arith, refl}
use Rattle.bh_tickets.proofs.Made.{among_ready, slot_made, slot_there}
use Rattle.bh_tickets.proofs.spare.ready_slot.Goals as goal
use Rattle.bh_tickets.proofs.spare.ready_slot.Goals.{then-group-eq0-via-then-group-eq0, then-group-eq0-via-else-group-eq0+then-group-free}

pub returns-then-group-eq0 : goal.returns-then-group-eq0
returns-then-group-eq0 c = slot_there c.args.arena.now c.args.group.now c.requires (elim c.then-group-eq0.branch [
  | then-group-eq0-via-then-group-eq0 w ↦ inl (omega (arith, w.if-group-eq0.true))
  | then-group-eq0-via-else-group-eq0+then-group-free w ↦ inr (omega (arith, w.if-group-free.true, w.free.ensures))
])

pub add_slot-requires : goal.add_slot-requires
add_slot-requires c = among_ready c.args.arena.now c.args.group.now c.requires (omega (arith, c.if-group-eq0.false))

pub returns : goal.returns
returns c = slot_made c.args.arena.now c.args.group.now c.requires c.add_slot.new.arena _ (omega (arith, c.if-group-eq0.false)) c.add_slot.ensures refl
