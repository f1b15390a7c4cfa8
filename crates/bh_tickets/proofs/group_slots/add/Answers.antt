use Rattle.std.proofs.Common.{length, sym, ap, ◌∙◌, arith, ◌+◌, subst}
use Rattle.bh_base.specs.Tickets.{is_queued}
use Rattle.std.specs.Prelude.{if◌then◌else◌}
use Rattle.bh_admit.specs.Permits.{PermitCount}
use Rattle.bh_tickets.specs.declared.group_slots.GroupSlots.{GroupSlots}
use Rattle.bh_base.specs.declared.ticket.Ticket.{Ticket}
use Rattle.bh_slot_arena.specs.Slots.{slots_on, with_payload}
use Rattle.bh_cache.proofs.Walks.{arena_is}
use Rattle.bh_tickets.specs.GroupSlots.{IsAdded, counted_in, with_submit}
use Rattle.bh_tickets.specs.NewTicket.{ticket_of}
use Rattle.bh_tickets.proofs.ByCommand.{one_few}
use Rattle.bh_tickets.proofs.InTurn.{turned}
use Rattle.bh_tickets.proofs.Adds.{IsNew, read_new, count_few, room_for, back_on, not_full, add_from, placed_from, to_list, is_new}
use Rattle.std.proofs.Common.{length-set}
use Rattle.bh_tickets.proofs.group_slots.add.Goals as goal

pub count_in-requires-clause-command : goal.count_in-requires-clause-command
count_in-requires-clause-command c =
    let lt = c.requires.arena.within c.args.group.now.lists.free c.in-Some.slot (back_on c.in-Some.slot (slots_on c.args.arena.now 0 c.args.group.now.lists.free) (sym c.back.ensures ∙ c.in-Some.is)) in
    let is = read_new c.args.arena.now c.args.group.now c.args.new.now c.in-Some.slot c.write.new.kept c.get-ticket.result.now lt c.write.ensures c.get-ticket.ensures in
    let fresh = subst (IsNew c.args.group.now) (sym is) (is_new c.args.group.now c.args.new.now c.requires.ticket) in
    omega (arith, fresh.command, c.requires.group.commands)

pub count_in-requires-clause-queued : goal.count_in-requires-clause-queued
count_in-requires-clause-queued c =
    omega (arith, c.requires.group.queued, c.requires.group.few, c.requires.ticket.room, one_few (is_queued c.get-ticket.result.now), count_few c.args.arena.now c.args.group.now is_queued c.requires.group)

pub count_in-requires-clause-room : goal.count_in-requires-clause-room
count_in-requires-clause-room c =
    let lt = c.requires.arena.within c.args.group.now.lists.free c.in-Some.slot (back_on c.in-Some.slot (slots_on c.args.arena.now 0 c.args.group.now.lists.free) (sym c.back.ensures ∙ c.in-Some.is)) in
    let is = read_new c.args.arena.now c.args.group.now c.args.new.now c.in-Some.slot c.write.new.kept c.get-ticket.result.now lt c.write.ensures c.get-ticket.ensures in
    let fresh = subst (IsNew c.args.group.now) (sym is) (is_new c.args.group.now c.args.new.now c.requires.ticket) in
    room_for c.args.arena.now c.args.group.now c.get-ticket.result.now c.requires.group fresh

pub returns-in_default : goal.returns-in_default
returns-in_default c = absurd (not_full c.args.arena.now c.args.group.now (ticket_of c.args.new.now c.args.group.now.next) c.requires.arena c.requires.group (is_new c.args.group.now c.args.new.now c.requires.ticket) (sym c.back.ensures ∙ c.in_default.is))

pub get_mut-requires : goal.get_mut-requires
get_mut-requires c = (omega arith, c.requires.arena.within c.args.group.now.lists.free c.in-Some.slot (back_on c.in-Some.slot (slots_on c.args.arena.now 0 c.args.group.now.lists.free) (sym c.back.ensures ∙ c.in-Some.is)))

pub move_to_back-requires : goal.move_to_back-requires
move_to_back-requires c =
    let lt = c.requires.arena.within c.args.group.now.lists.free c.in-Some.slot (back_on c.in-Some.slot (slots_on c.args.arena.now 0 c.args.group.now.lists.free) (sym c.back.ensures ∙ c.in-Some.is)) in
    (omega arith, (omega arith, (omega (arith, lt, length-set c.args.arena.now.payloads c.in-Some.slot c.write.new.kept), to_list c.args.arena.now c.args.group.now c.list_for-to.result c.get-ticket.result.now.state c.requires.group c.list_for-to.ensures)))

pub place_new-requires-clause-slot : goal.place_new-requires-clause-slot
place_new-requires-clause-slot c =
    let lt = c.requires.arena.within c.args.group.now.lists.free c.in-Some.slot (back_on c.in-Some.slot (slots_on c.args.arena.now 0 c.args.group.now.lists.free) (sym c.back.ensures ∙ c.in-Some.is)) in
    rw c.move_to_back.ensures.moved (omega (arith, lt, length-set c.args.arena.now.payloads c.in-Some.slot c.write.new.kept))

pub returns : goal.returns
returns c =
    let lt = c.requires.arena.within c.args.group.now.lists.free c.in-Some.slot (back_on c.in-Some.slot (slots_on c.args.arena.now 0 c.args.group.now.lists.free) (sym c.back.ensures ∙ c.in-Some.is)) in
    let is = read_new c.args.arena.now c.args.group.now c.args.new.now c.in-Some.slot c.write.new.kept c.get-ticket.result.now lt c.write.ensures c.get-ticket.ensures in
    let fresh = subst (IsNew c.args.group.now) (sym is) (is_new c.args.group.now c.args.new.now c.requires.ticket) in
    let slots = c.try_take.ensures.taken ∙ ap (λ b. if b then record c.args.group.now.slots { taken = c.args.group.now.slots.taken + 1 } else c.args.group.now.slots) c.if-not-try_take.false in
    let counted = c.note_submit.ensures ∙ ap (with_submit c.get-ticket.result.now) c.count_in.ensures ∙ ap (λ (p : PermitCount). with_submit c.get-ticket.result.now (counted_in c.get-ticket.result.now (record c.args.group.now { slots = p }))) slots in
    let lists = ap (λ (s : GroupSlots). s.lists) c.note_move.ensures.rest ∙ ap (λ (s : GroupSlots). s.lists) counted in
    subst (λ (v : Ticket). IsAdded c.args.arena.now c.args.group.now v c.place_new.new.arena (record c.note_move.new.group { next = c.note_move.new.group.next + 1 })) is
    (add_from c.args.arena.now c.place_new.new.arena c.args.group.now c.in-Some.slot c.list_for-to.result c.get-ticket.result.now c.requires.arena c.requires.group (sym c.back.ensures ∙ c.in-Some.is) fresh
    (arena_is c.args.arena.now 1 (omega (arith, c.partition.ensures.families)) c.partition.ensures.lists)
    (arena_is c.args.arena.now 2 (omega (arith, c.partition.ensures.families)) c.partition-2.ensures.lists)
    c.list_for-to.ensures
    (placed_from c.args.arena.now (with_payload c.in-Some.slot c.write.new.kept c.args.arena.now) c.move_to_back.new.self c.place_new.new.arena c.args.group.now.lists c.note_move.new.group.lists c.in-Some.slot c.list_for-to.result c.get-ticket.result.now lt lists (ap (λ (t : Ticket). with_payload c.in-Some.slot t c.args.arena.now) (c.write.ensures ∙ sym is)) c.move_to_back.ensures.moved c.place_new.ensures) _ c.note_move.new.group.order.last_started c.note_move.new.group.order.in_turn
    (ap (λ (s : GroupSlots). record s { next = s.next + 1 }) c.note_move.ensures.rest ∙ ap (λ (s : GroupSlots). record s { next = s.next + 1; order = record s.order { last_started = c.note_move.new.group.order.last_started; in_turn = c.note_move.new.group.order.in_turn } }) counted)
    (turned c.args.arena.now c.args.group.now c.note_submit.new.group c.note_move.new.group c.get-ticket.result.now.serial c.args.group.now.lists.free c.list_for-to.result c.len_of-alone.result
    (ap (λ (s : GroupSlots). s.lists) counted) (ap (λ (s : GroupSlots). s.order.last_started) counted) (ap (λ (s : GroupSlots). s.order.in_turn) counted)
    (c.len_of-alone.ensures ∙ sym (ap (λ (s : GroupSlots). length (slots_on c.args.arena.now 0 s.lists.running)) counted)) c.note_move.ensures.stays c.note_move.ensures.other c.note_move.ensures.starts))
