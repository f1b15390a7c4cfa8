use Rattle.std.proofs.Common.{length, ap, ◌∙◌}
use Rattle.std.proofs.lemmas.List.{length-map}
use Rattle.bh_cache.specs.Listed.{now_is}
use Rattle.bh_cache.specs.Slots.{tickets_of}
use Rattle.bh_tickets.specs.Changes.{changed_by}
use Rattle.bh_tickets.proofs.Changed.{serial_kept}
use Rattle.bh_tickets.proofs.Tables.{put_serials, tables_same}
use Rattle.bh_tickets.proofs.Whole.{part_is, there_is, can_be_at, changed_is, groups_in, kept}
use Rattle.bh_tickets.proofs.tickets.Tickets.change.Goals as goal

pub change-requires-clause-group : goal.change-requires-clause-group
change-requires-clause-group c =
    let s = c.index_mut-entry.result.now in
    let is = part_is c.self.inside.arena c.self.inside.groups.items c.args.self.now c.args.group s c.self.view_is c.requires.group c.index_mut-entry.ensures.value in
    (groups_in c.self.invariant.whole).each c.args.group s is

pub change-requires-clause-allowed : goal.change-requires-clause-allowed
change-requires-clause-allowed c =
    let s = c.index_mut-entry.result.now in
    let is = part_is c.self.inside.arena c.self.inside.groups.items c.args.self.now c.args.group s c.self.view_is c.requires.group c.index_mut-entry.ensures.value in
    can_be_at c.self.inside.arena c.self.inside.groups.items c.args.group c.args.slot s c.args.change.now (groups_in c.self.invariant.whole) is (rw (← c.self.view_is) at c.requires.allowed)

pub invariant_of-self : goal.invariant_of-self
invariant_of-self c =
    let s = c.index_mut-entry.result.now in
    let is = part_is c.self.inside.arena c.self.inside.groups.items c.args.self.now c.args.group s c.self.view_is c.requires.group c.index_mut-entry.ensures.value in
    let can = rw (← c.self.view_is) at c.requires.allowed in
    let put = c.change.ensures can.ticket (there_is c.self.inside.arena c.self.inside.groups.items c.args.group c.args.slot s can.ticket (groups_in c.self.invariant.whole) is can.here) in
    let v = changed_by c.args.change.now can.ticket in
    let here = there_is c.self.inside.arena c.self.inside.groups.items c.args.group c.args.slot s can.ticket (groups_in c.self.invariant.whole) is can.here in
    record {
      whole = kept c.self.inside.arena c.change.new.arena c.self.inside.spare c.self.inside.groups.items c.self.inside.names.items c.args.group s c.change.new.group c.self.invariant.whole is put.change;
      tables = tables_same c.self.inside.arena c.change.new.arena c.self.inside.groups.items c.args.group s c.change.new.group (groups_in c.self.invariant.whole) is put.change c.self.inside.tables.items c.self.invariant.tables put.next
          (ap length put.items ∙ length-map (tickets_of c.self.inside.arena s.lists) (now_is v))
          (put_serials c.self.inside.arena c.change.new.arena s c.change.new.group c.args.slot can.ticket v here (serial_kept c.args.change.now can.ticket) put);
    }

pub returns : goal.returns
returns c =
    let s = c.index_mut-entry.result.now in
    let is = part_is c.self.inside.arena c.self.inside.groups.items c.args.self.now c.args.group s c.self.view_is c.requires.group c.index_mut-entry.ensures.value in
    rw (← c.self.view_is) (changed_is c.self.inside.arena c.change.new.arena c.self.inside.groups.items c.args.group c.args.slot s c.change.new.group c.args.change.now (groups_in c.self.invariant.whole) is (rw (← c.self.view_is) at c.requires.allowed) c.change.ensures)
