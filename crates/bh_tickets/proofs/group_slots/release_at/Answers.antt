use Rattle.std.proofs.Common.{◌≡◌, ◌+◌, false, Option, Some, None, sym, ap, ◌∙◌, arith, ◌-◌}
use Rattle.bh_base.specs.Tickets.{is_kept, is_queued}
use Rattle.bh_admit.specs.Permits.{PermitCount}
use Rattle.std.specs.Prelude.{slice_get}
use Rattle.bh_base.specs.declared.ticket.Ticket.{Ticket}
use Rattle.bh_tickets.specs.declared.group_slots.GroupSlots.{GroupSlots}
use Rattle.bh_slot_arena.specs.Slots.{with_moved}
use Rattle.bh_cache.specs.Chains.{is_named, with_placed_where}
use Rattle.bh_cache.specs.Slots.{Slots}
use Rattle.bh_tickets.specs.GroupSlots.{counted_out, is_any}
use Rattle.bh_tickets.proofs.Tables.{table_released}
use Rattle.bh_tickets.proofs.Puts.{counted_at, counted_there}
use Rattle.bh_cache.proofs.Walks.{arena_is}
use Rattle.bh_tickets.proofs.Releases.{there_at, there_within, stays_at, gone_from}
use Rattle.bh_tickets.proofs.group_slots.release_at.Goals as goal

pub get-was-requires : goal.get-was-requires
get-was-requires c = (omega arith, there_within c.args.arena.now c.args.group.now c.args.slot c.requires.there)

pub returns-then-is_kept-clause-released : goal.returns-then-is_kept-clause-released
returns-then-is_kept-clause-released c =
    let here = there_at c.args.arena.now c.args.group.now c.args.slot c.get-was.result.now c.requires.there c.get-was.ensures in
    stays_at c.args.arena.now c.args.group.now c.args.slot c.get-was.result.now c.requires.arena c.requires.group here (sym c.is_kept.ensures ∙ c.if-is_kept.true)

pub count_out-requires-clause-queued : goal.count_out-requires-clause-queued
count_out-requires-clause-queued c =
    let here = there_at c.args.arena.now c.args.group.now c.args.slot c.get-was.result.now c.requires.there c.get-was.ensures in
    omega (arith, c.requires.group.queued, counted_at c.args.arena.now c.args.group.now c.args.slot c.get-was.result.now c.requires.group here is_queued)

pub count_out-requires-clause-counted : goal.count_out-requires-clause-counted
count_out-requires-clause-counted c =
    let here = there_at c.args.arena.now c.args.group.now c.args.slot c.get-was.result.now c.requires.there c.get-was.ensures in
    counted_there c.args.arena.now c.args.group.now c.args.slot c.get-was.result.now c.requires.group here

pub give-requires : goal.give-requires
give-requires c =
    let here = there_at c.args.arena.now c.args.group.now c.args.slot c.get-was.result.now c.requires.there c.get-was.ensures in
    let out = ap (λ (s : GroupSlots). s.slots.taken) c.count_out.ensures in
    omega (arith, out, c.requires.group.taken, counted_at c.args.arena.now c.args.group.now c.args.slot c.get-was.result.now c.requires.group here is_any)

pub returns-clause-released : goal.returns-clause-released
returns-clause-released c =
    let here = there_at c.args.arena.now c.args.group.now c.args.slot c.get-was.result.now c.requires.there c.get-was.ensures in
    gone_from c.args.arena.now c.place_gone.new.arena c.args.group.now c.args.slot c.get-was.result.now c.requires.arena c.requires.group c.requires.many here (sym c.is_kept.ensures ∙ c.if-is_kept.false)
    (arena_is c.args.arena.now 1 (omega (arith, c.partition.ensures.families)) c.partition.ensures.lists)
    (arena_is c.args.arena.now 2 (omega (arith, c.partition.ensures.families)) c.partition-2.ensures.lists)
    (c.place_gone.ensures ∙ ap (λ (z : Slots). with_placed_where (is_named (slice_get z.payloads c.args.slot)) c.count_out.new.group.lists c.args.slot None z) c.move_to_back.ensures.moved
    ∙ ap (λ (o : Option Ticket). with_placed_where (is_named o) c.count_out.new.group.lists c.args.slot None (with_moved 0 c.args.slot c.count_out.new.group.lists.free c.args.arena.now)) (sym c.get-was.ensures)
    ∙ ap (λ (s : GroupSlots). with_placed_where (is_named (Some c.get-was.result.now)) s.lists c.args.slot None (with_moved 0 c.args.slot s.lists.free c.args.arena.now)) c.count_out.ensures) _
    (ap (λ (p : PermitCount). record c.count_out.new.group { slots = p }) c.give.ensures ∙ ap (λ (s : GroupSlots). record s { slots = record s.slots { taken = s.slots.taken - 1 } }) c.count_out.ensures)

pub returns-clause-table : goal.returns-clause-table
returns-clause-table c = λ fits.
    let a = c.args.arena.now in
    let s = c.args.group.now in
    let t = c.get-was.result.now in
    let here = there_at a s c.args.slot t c.requires.there c.get-was.ensures in
    let drops : is_kept t ≡ false = sym c.is_kept.ensures ∙ c.if-is_kept.false in
    let r : GroupSlots = record c.count_out.new.group { slots = c.give.new.self } in
    let made : r ≡ record (counted_out t s) { slots = record s.slots { taken = s.slots.taken - 1 } } =
    ap (λ (p : PermitCount). record c.count_out.new.group { slots = p }) c.give.ensures ∙ ap (λ (s : GroupSlots). record s { slots = record s.slots { taken = s.slots.taken - 1 } }) c.count_out.ensures in
    let taken : r.slots.taken + 1 ≡ s.slots.taken = omega (arith, ap (λ (z : GroupSlots). z.slots.taken) made, c.requires.group.taken, counted_at a s c.args.slot t c.requires.group here is_any) in
    table_released a c.place_gone.new.arena s r c.args.slot t c.requires.arena c.requires.group (returns-clause-released c) here drops taken c.args.table.now c.remove.new.self c.remove.ensures.left c.remove.ensures.one fits
