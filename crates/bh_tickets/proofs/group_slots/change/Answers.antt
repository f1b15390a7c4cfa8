use Rattle.std.proofs.Common.{inl, inr, sym, ap, subst, ◌∙◌, refl, arith, length-set}
use Rattle.bh_base.specs.Tickets.{is_queued}
use Rattle.bh_cache.specs.Slots.{list_for}
use Rattle.bh_tickets.specs.declared.counts.CommandCounts.{CommandCounts}
use Rattle.bh_tickets.specs.declared.group_slots.GroupSlots.{GroupSlots}
use Rattle.bh_cache.specs.Notes.{IsNoted}
use Rattle.bh_tickets.specs.GroupSlots.{counted_in}
use Rattle.bh_tickets.proofs.InPlace.{change_from, here_is, read_known}
use Rattle.bh_tickets.proofs.InTurn.{turned}
use Rattle.bh_tickets.proofs.Puts.{counted_at, counted_there, room_at, room_without}
use Rattle.bh_tickets.proofs.ByCommand.{one_few}
use Rattle.bh_tickets.proofs.group_slots.change.Goals as goal

pub count_out-requires-clause-queued : goal.count_out-requires-clause-queued
count_out-requires-clause-queued c =
    let here = here_is c.args.arena.now c.args.group.now c.args.slot c.args.change.now c.requires.allowed c.get-was.result.now c.get-was.ensures in
    omega (arith, c.requires.group.queued, counted_at c.args.arena.now c.args.group.now c.args.slot c.get-was.result.now c.requires.group here is_queued)

pub count_out-requires-clause-counted : goal.count_out-requires-clause-counted
count_out-requires-clause-counted c =
    let here = here_is c.args.arena.now c.args.group.now c.args.slot c.args.change.now c.requires.allowed c.get-was.result.now c.get-was.ensures in
    counted_there c.args.arena.now c.args.group.now c.args.slot c.get-was.result.now c.requires.group here

pub count_in-requires-clause-command : goal.count_in-requires-clause-command
count_in-requires-clause-command c =
    let known = read_known c.args.arena.now c.args.group.now c.args.slot c.args.change.now c.requires.allowed c.get-was.result.now c.get-was.ensures c.get_mut.result.now c.apply.new.ticket c.get-ticket.result.now c.get_mut.ensures.value c.apply.ensures c.get-ticket.ensures c.requires.group in
    rw c.count_out.ensures (omega (arith, known, c.requires.group.commands, length-set {A = CommandCounts}))

pub count_in-requires-clause-queued : goal.count_in-requires-clause-queued
count_in-requires-clause-queued c =
    let here = here_is c.args.arena.now c.args.group.now c.args.slot c.args.change.now c.requires.allowed c.get-was.result.now c.get-was.ensures in
    let out = ap (λ (s : GroupSlots). s.queued) c.count_out.ensures in
    omega (arith, out, c.requires.group.queued, c.requires.group.few, one_few (is_queued c.get-ticket.result.now), room_at c.args.arena.now c.args.group.now c.args.slot c.get-was.result.now c.requires.group here is_queued)

pub count_in-requires-clause-room : goal.count_in-requires-clause-room
count_in-requires-clause-room c =
    let here = here_is c.args.arena.now c.args.group.now c.args.slot c.args.change.now c.requires.allowed c.get-was.result.now c.get-was.ensures in
    let known = read_known c.args.arena.now c.args.group.now c.args.slot c.args.change.now c.requires.allowed c.get-was.result.now c.get-was.ensures c.get_mut.result.now c.apply.new.ticket c.get-ticket.result.now c.get_mut.ensures.value c.apply.ensures c.get-ticket.ensures c.requires.group in
    rw c.count_out.ensures (room_without c.args.arena.now c.args.group.now c.args.slot c.get-was.result.now c.requires.group here c.get-ticket.result.now known)

pub returns-then-not-needed : goal.returns-then-not-needed
returns-then-not-needed c =
    let counted = c.count_in.ensures ∙ ap (counted_in c.get-ticket.result.now) c.count_out.ensures in
    let noted_move = ap (λ (s : GroupSlots). record s { order = record s.order { last_started = c.note_move.new.group.order.last_started; in_turn = c.note_move.new.group.order.in_turn } }) counted in
    let turns = turned c.args.arena.now c.args.group.now c.count_in.new.group c.note_move.new.group c.get-ticket.result.now.serial c.list_for-from.result c.list_for-to.result c.len_of-alone.result
    (ap (λ (s : GroupSlots). s.lists) counted) (ap (λ (s : GroupSlots). s.order.last_started) counted) (ap (λ (s : GroupSlots). s.order.in_turn) counted) c.len_of-alone.ensures c.note_move.ensures.stays c.note_move.ensures.other c.note_move.ensures.starts in
    change_from c.args.arena.now c.args.group.now c.args.slot c.args.change.now c.requires.allowed c.get-was.result.now c.get-was.ensures c.get_mut.result.now c.apply.new.ticket c.get-ticket.result.now c.get_mut.ensures.value c.apply.ensures c.get-ticket.ensures
    c.move_on.new.arena c.requires.arena c.requires.group c.list_for-from.result c.list_for-to.result
    (c.list_for-from.ensures ∙ ap (λ (s : GroupSlots). list_for s.lists c.get-was.result.now.state) c.count_out.ensures) (c.list_for-to.ensures ∙ ap (λ (s : GroupSlots). list_for s.lists c.get-ticket.result.now.state) counted)
    c.move_on.ensures.same c.move_on.ensures.moved
    _ c.with_slot-group.result c.note_move.new.group.order.last_started c.note_move.new.group.order.in_turn (ap (λ (s : GroupSlots). record s { needless = c.with_slot-group.result }) (c.note_move.ensures.rest ∙ noted_move)) turns
    (inl (sym c.is_kept-needed.ensures ∙ c.if-not-needed.true, subst (λ (s : GroupSlots). IsNoted c.args.slot s.needless c.with_slot-group.result) (c.note_move.ensures.rest ∙ noted_move) c.with_slot-group.ensures))

pub returns-else-not-needed : goal.returns-else-not-needed
returns-else-not-needed c =
    let counted = c.count_in.ensures ∙ ap (counted_in c.get-ticket.result.now) c.count_out.ensures in
    let noted_move = ap (λ (s : GroupSlots). record s { order = record s.order { last_started = c.note_move.new.group.order.last_started; in_turn = c.note_move.new.group.order.in_turn } }) counted in
    let turns = turned c.args.arena.now c.args.group.now c.count_in.new.group c.note_move.new.group c.get-ticket.result.now.serial c.list_for-from.result c.list_for-to.result c.len_of-alone.result
    (ap (λ (s : GroupSlots). s.lists) counted) (ap (λ (s : GroupSlots). s.order.last_started) counted) (ap (λ (s : GroupSlots). s.order.in_turn) counted) c.len_of-alone.ensures c.note_move.ensures.stays c.note_move.ensures.other c.note_move.ensures.starts in
    change_from c.args.arena.now c.args.group.now c.args.slot c.args.change.now c.requires.allowed c.get-was.result.now c.get-was.ensures c.get_mut.result.now c.apply.new.ticket c.get-ticket.result.now c.get_mut.ensures.value c.apply.ensures c.get-ticket.ensures
    c.move_on.new.arena c.requires.arena c.requires.group c.list_for-from.result c.list_for-to.result
    (c.list_for-from.ensures ∙ ap (λ (s : GroupSlots). list_for s.lists c.get-was.result.now.state) c.count_out.ensures) (c.list_for-to.ensures ∙ ap (λ (s : GroupSlots). list_for s.lists c.get-ticket.result.now.state) counted)
    c.move_on.ensures.same c.move_on.ensures.moved
    _ c.args.group.now.needless c.note_move.new.group.order.last_started c.note_move.new.group.order.in_turn (c.note_move.ensures.rest ∙ noted_move) turns (inr (sym c.is_kept-needed.ensures ∙ c.if-not-needed.false, refl))
