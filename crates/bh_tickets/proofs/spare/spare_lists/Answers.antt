use Rattle.std.proofs.Common.{Some, ◌+◌, length, arith, subst, sym}
use Rattle.bh_slot_arena.specs.Slots.{lists_in}
use Rattle.bh_tickets.specs.declared.group_slots.GroupSlots.{GroupSlots}
use Rattle.bh_tickets.specs.Spare.{KeepsGroups}
use Rattle.bh_tickets.proofs.NewGroup.{new_lists}
use Rattle.bh_tickets.proofs.Ready.{made_spare, more_keeps}
use Rattle.bh_tickets.proofs.spare.spare_lists.Goals as goal

pub returns-in_err-lists-clause-keeps : goal.returns-in_err-lists-clause-keeps
returns-in_err-lists-clause-keeps c = more_keeps c.args.arena.now c.first_lists.new.arena c.args.spare.now c.first_lists.ensures.more

pub returns-clause-keeps : goal.returns-clause-keeps
returns-clause-keeps c = let a = c.args.arena.now in
    subst (λ (z : GroupSlots). KeepsGroups c.args.arena.now c.args.spare.now c.first_lists.new.arena (Some z)) (sym c.new.ensures)
    (made_spare 16 c.in_ok-lists.lists a c.first_lists.new.arena c.args.spare.now c.in_default.is
    (new_lists (1 + 16) (1 + length (lists_in a 1)) (1 + length (lists_in a 2)) 16 c.in_ok-lists.lists a c.first_lists.new.arena (omega arith) c.in_ok-lists.ensures.ok c.in_ok-lists.ensures.lists
    (omega arith) (omega arith) (omega arith) (omega arith) (omega arith) (omega arith)))
