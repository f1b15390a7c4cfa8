use Rattle.std.proofs.Common.{◌≡◌, ℕ, arith, ◌+◌, ◌<◌, ◌++◌, ◌∷◌, [], List, length, set, slice_get, ap, subst, sym, ◌∙◌, refl, rules}
use Rattle.std.specs.Prelude.{◌≢◌}
use Rattle.bh_admit.specs.Permits.{PermitCount}
use Rattle.bh_serials.specs.TableView.{TableView, with_entry}
use Rattle.bh_tickets.specs.declared.group_slots.GroupSlots.{GroupSlots}
use Rattle.bh_tickets.specs.Tables.{IsTable}
use Rattle.bh_tickets.specs.NewTicket.{ticket_of}
use Rattle.bh_tickets.specs.TicketsView.{CanPush, TicketsView, group_at}
use Rattle.bh_tickets.specs.Whole.{AreGroupSlots, AreTickets, group_of, view_of}
use Rattle.bh_tickets.proofs.Readied.{IsReadied, readied}
use Rattle.bh_tickets.proofs.Tables.{put_elsewhere, put_here, read_is, table_added, table_lt, own_table, table_of, tables_changed}
use Rattle.bh_tickets.proofs.Whole.{part_is, can_add_at, items_now, groups_in, kept, taken_is}
use Rattle.bh_tickets.proofs.Whole.{others_same, next_is, next_now, room_now}
use Rattle.bh_tickets.proofs.tickets.Tickets.push.Goals as goal

pub ready_slot-requires : goal.ready_slot-requires
ready_slot-requires c = record {
  spare = c.self.inside.spare;
  groups = c.self.inside.groups.items;
  names = c.self.inside.names.items;
  number = c.args.group;
  whole = c.self.invariant.whole;
  here = part_is c.self.inside.arena c.self.inside.groups.items c.args.self.now c.args.group c.index_mut-entry.result.now c.self.view_is c.requires.group c.index_mut-entry.ensures.value;
}

pub back-slot-requires : goal.back-slot-requires
back-slot-requires c =
    let k = readied c.self.invariant c.self.view_is (part_is c.self.inside.arena c.self.inside.groups.items c.args.self.now c.args.group c.index_mut-entry.result.now c.self.view_is c.requires.group c.index_mut-entry.ensures.value) c.ready_slot.ensures in
    let b = c.ready_slot.new.arena in
    let s = c.ready_slot.new.group in
    let ss = set c.self.inside.groups.items c.args.group s in
    let group = (groups_in k.tickets.whole).each c.args.group s k.here in
    (omega arith, omega (arith, group.there, group.numbered.settled))

pub index_mut-requires : goal.index_mut-requires
index_mut-requires c =
    let k = readied c.self.invariant c.self.view_is (part_is c.self.inside.arena c.self.inside.groups.items c.args.self.now c.args.group c.index_mut-entry.result.now c.self.view_is c.requires.group c.index_mut-entry.ensures.value) c.ready_slot.ensures in
    let b = c.ready_slot.new.arena in
    let s = c.ready_slot.new.group in
    let ss = set c.self.inside.groups.items c.args.group s in
    let ts = c.self.inside.tables.items in
    let had = own_table b ss ts c.args.group s k.tickets.tables k.here in
    let lt = table_lt ts c.args.group had.table had.here in
    search (rules, lt)

pub put_slot-requires-clause-later : goal.put_slot-requires-clause-later
put_slot-requires-clause-later c = λ some.
    let k = readied c.self.invariant c.self.view_is (part_is c.self.inside.arena c.self.inside.groups.items c.args.self.now c.args.group c.index_mut-entry.result.now c.self.view_is c.requires.group c.index_mut-entry.ensures.value) c.ready_slot.ensures in
    let b = c.ready_slot.new.arena in
    let s = c.ready_slot.new.group in
    let ss = set c.self.inside.groups.items c.args.group s in
    let ts = c.self.inside.tables.items in
    let had = own_table b ss ts c.args.group s k.tickets.tables k.here in
    let read = read_is ts c.args.group c.index_mut.result.now had.table had.here c.index_mut.ensures.value in
    omega (arith, ap (λ (t : TableView). t.latest) read, had.fits.latest)

pub put_slot-requires-clause-room : goal.put_slot-requires-clause-room
put_slot-requires-clause-room c = λ some.
    let k = readied c.self.invariant c.self.view_is (part_is c.self.inside.arena c.self.inside.groups.items c.args.self.now c.args.group c.index_mut-entry.result.now c.self.view_is c.requires.group c.index_mut-entry.ensures.value) c.ready_slot.ensures in
    let b = c.ready_slot.new.arena in
    let s = c.ready_slot.new.group in
    let ss = set c.self.inside.groups.items c.args.group s in
    let is = ap (λ (z : GroupSlots). z.slots) c.ready_slot.ensures.else in
    let made : s.slots.taken < s.slots.max → s.slots.taken + s.unmade < s.slots.max = subst (λ (z : PermitCount). z.taken < z.max → s.slots.taken + s.unmade < s.slots.max) (sym is) c.ready_slot.ensures.room in
    let can = can_add_at b ss c.args.group s c.args.new.now (groups_in k.tickets.whole) k.here (subst (λ (v : TicketsView). CanPush (group_at v c.args.group) c.args.new.now) (sym k.shown) c.requires.ticket) made in
    let ts = c.self.inside.tables.items in
    let had = own_table b ss ts c.args.group s k.tickets.tables k.here in
    let read = read_is ts c.args.group c.index_mut.result.now had.table had.here c.index_mut.ensures.value in
    let taken = taken_is b s ((groups_in k.tickets.whole).each c.args.group s k.here) in
    omega (arith, ap (λ (t : TableView). length t.entries) read, ap (λ (t : TableView). t.room) read, had.fits.count, had.fits.room, can.room, taken)

pub add-requires-clause-group : goal.add-requires-clause-group
add-requires-clause-group c =
    let k = readied c.self.invariant c.self.view_is (part_is c.self.inside.arena c.self.inside.groups.items c.args.self.now c.args.group c.index_mut-entry.result.now c.self.view_is c.requires.group c.index_mut-entry.ensures.value) c.ready_slot.ensures in
    let b = c.ready_slot.new.arena in
    let s = c.ready_slot.new.group in
    let ss = set c.self.inside.groups.items c.args.group s in
    (groups_in k.tickets.whole).each c.args.group s k.here

pub add-requires-clause-ticket : goal.add-requires-clause-ticket
add-requires-clause-ticket c =
    let k = readied c.self.invariant c.self.view_is (part_is c.self.inside.arena c.self.inside.groups.items c.args.self.now c.args.group c.index_mut-entry.result.now c.self.view_is c.requires.group c.index_mut-entry.ensures.value) c.ready_slot.ensures in
    let b = c.ready_slot.new.arena in
    let s = c.ready_slot.new.group in
    let ss = set c.self.inside.groups.items c.args.group s in
    let is = ap (λ (z : GroupSlots). z.slots) c.ready_slot.ensures.else in
    let made : s.slots.taken < s.slots.max → s.slots.taken + s.unmade < s.slots.max = subst (λ (z : PermitCount). z.taken < z.max → s.slots.taken + s.unmade < s.slots.max) (sym is) c.ready_slot.ensures.room in
    can_add_at b ss c.args.group s c.args.new.now (groups_in k.tickets.whole) k.here (subst (λ (v : TicketsView). CanPush (group_at v c.args.group) c.args.new.now) (sym k.shown) c.requires.ticket) made

pub invariant_of-self : goal.invariant_of-self
invariant_of-self c =
    let k = readied c.self.invariant c.self.view_is (part_is c.self.inside.arena c.self.inside.groups.items c.args.self.now c.args.group c.index_mut-entry.result.now c.self.view_is c.requires.group c.index_mut-entry.ensures.value) c.ready_slot.ensures in
    let b = c.ready_slot.new.arena in
    let s = c.ready_slot.new.group in
    let ss = set c.self.inside.groups.items c.args.group s in
    let d = c.add.new.arena in
    let r = c.add.new.group in
    let rs = set c.self.inside.groups.items c.args.group r in
    let e = c.add.ensures in
    let v = ticket_of c.args.new.now s.next in
    let ts = c.self.inside.tables.items in
    let had = table_of b d ss c.args.group s r (groups_in k.tickets.whole) k.here e.change ts k.tickets.tables in
    let read = read_is ts c.args.group c.index_mut.result.now had.table had.here c.index_mut.ensures.value in
    let put : c.put_slot.new.table ≡ with_entry v.serial e.come.slot had.table = c.put_slot.ensures e.come.slot (c.back-slot.ensures ∙ e.come.last) ∙ ap (with_entry v.serial e.come.slot) read in
    subst (λ (us : List GroupSlots). AreTickets d c.self.inside.spare us c.self.inside.names.items (set ts c.args.group c.put_slot.new.table)) (k.twice r) (record {
      whole = kept b d c.self.inside.spare ss c.self.inside.names.items c.args.group s r k.tickets.whole k.here e.change;
      tables = tables_changed b d ss c.args.group s r (groups_in k.tickets.whole) k.here e.change ts k.tickets.tables
          (set ts c.args.group c.put_slot.new.table) c.put_slot.new.table (λ j ne. put_elsewhere ts c.args.group j c.put_slot.new.table ne) (put_here ts c.args.group c.put_slot.new.table (table_lt ts c.args.group had.table had.here))
          (subst (IsTable (group_of d r)) (sym put) (table_added b d s r v (groups_in k.tickets.whole).arena ((groups_in k.tickets.whole).each c.args.group s k.here) e refl had.table had.fits));
    })

pub add-requires-clause-arena : goal.add-requires-clause-arena
add-requires-clause-arena c =
    let k = readied c.self.invariant c.self.view_is (part_is c.self.inside.arena c.self.inside.groups.items c.args.self.now c.args.group c.index_mut-entry.result.now c.self.view_is c.requires.group c.index_mut-entry.ensures.value) c.ready_slot.ensures in
    k.tickets.whole.all.arena

-- all groups once a slot is ready
ready_now : (c : goal.After-self-2-1) → IsReadied c.args.group c.args.self.now c.self.inside.spare c.self.inside.groups.items c.self.inside.names.items c.self.inside.tables.items c.ready_slot.new.arena c.ready_slot.new.group
ready_now c = readied c.self.invariant c.self.view_is (part_is c.self.inside.arena c.self.inside.groups.items c.args.self.now c.args.group c.index_mut-entry.result.now c.self.view_is c.requires.group c.index_mut-entry.ensures.value) c.ready_slot.ensures

abbrev groups_then : goal.After-self-2-1 → List GroupSlots
groups_then c = set c.self.inside.groups.items c.args.group c.ready_slot.new.group

groups_good : (c : goal.After-self-2-1) → AreGroupSlots c.ready_slot.new.arena (groups_then c)
groups_good c = groups_in (ready_now c).tickets.whole

-- what holds of the groups behind that of a ready slot holds of those behind the groups that contracts saw before
seen_before : (c : goal.After-self-2-1) (holds : TicketsView → TicketsView → Type 0) → holds (view_of c.ready_slot.new.arena (groups_then c)) (view_of c.add.new.arena (set (groups_then c) c.args.group c.add.new.group))
    → holds c.args.self.now (view_of c.add.new.arena (set c.self.inside.groups.items c.args.group c.add.new.group))
seen_before c holds is =
    let k = ready_now c in
    let d = c.add.new.arena in
    subst (λ (v : TicketsView). holds v (view_of d (set c.self.inside.groups.items c.args.group c.add.new.group))) k.shown
    (subst (λ (us : List GroupSlots). holds (view_of c.ready_slot.new.arena (groups_then c)) (view_of d us)) (k.twice c.add.new.group) is)

pub returns-clause-items : goal.returns-clause-items
returns-clause-items c =
    let b = c.ready_slot.new.arena in
    let s = c.ready_slot.new.group in
    let ss = groups_then c in
    let i = c.args.group in
    let e = c.add.ensures in
    let here = (ready_now c).here in
    seen_before c (λ v w. (group_at w i).items ≡ (group_at v i).items ++ ticket_of c.args.new.now (group_at v i).next ∷ [])
    (items_now b c.add.new.arena ss i s c.add.new.group (groups_good c) here e.change (λ ts. ts ++ ticket_of c.args.new.now s.next ∷ []) e.items ∙ ap (λ n. (group_at (view_of b ss) i).items ++ ticket_of c.args.new.now n ∷ []) (next_is b ss i s here))

pub returns-clause-next : goal.returns-clause-next
returns-clause-next c =
    seen_before c (λ v w. (group_at w c.args.group).next ≡ (group_at v c.args.group).next + 1)
    (next_now c.ready_slot.new.arena c.add.new.arena (groups_then c) c.args.group c.ready_slot.new.group c.add.new.group (groups_good c) (ready_now c).here c.add.ensures.change (λ n. n + 1) c.add.ensures.next)

pub returns-clause-room : goal.returns-clause-room
returns-clause-room c =
    seen_before c (λ v w. (group_at w c.args.group).room ≡ (group_at v c.args.group).room)
    (room_now c.ready_slot.new.arena c.add.new.arena (groups_then c) c.args.group c.ready_slot.new.group c.add.new.group (groups_good c) (ready_now c).here c.add.ensures.change)

pub returns-clause-others : goal.returns-clause-others
returns-clause-others c =
    seen_before c (λ v w. (g : ℕ) → g ≢ c.args.group → slice_get w.groups g ≡ slice_get v.groups g)
    (λ g ne. others_same c.ready_slot.new.arena c.add.new.arena (groups_then c) c.args.group c.ready_slot.new.group c.add.new.group (groups_good c) (ready_now c).here c.add.ensures.change g ne)

pub returns-clause-limit : goal.returns-clause-limit
returns-clause-limit c = ap (λ (z : ℕ × ℕ). z.0) c.add.ensures.change.bounds ∙ ap (λ (v : TicketsView). v.limit) (ready_now c).shown
