use Rattle.std.proofs.Common.{map, filter, length, ap, sym, ◌∙◌}
use Rattle.std.proofs.lemmas.List.{length-map}
use Rattle.bh_cache.specs.Slots.{tickets_of}
use Rattle.bh_tickets.proofs.Tables.{tables_same}
use Rattle.bh_tickets.specs.Changes.{is_due_by, timed_out_by}
use Rattle.bh_tickets.proofs.Whole.{part_is, items_now, else_is, shown_length, groups_in, kept}
use Rattle.bh_tickets.proofs.tickets.Tickets.time_out.Goals as goal

pub time_out-requires-clause-group : goal.time_out-requires-clause-group
time_out-requires-clause-group c =
    let s = c.index_mut-entry.result.now in
    let is = part_is c.self.inside.arena c.self.inside.groups.items c.args.self.now c.args.group s c.self.view_is c.requires.group c.index_mut-entry.ensures.value in
    (groups_in c.self.invariant.whole).each c.args.group s is

pub invariant_of-self : goal.invariant_of-self
invariant_of-self c =
    let s = c.index_mut-entry.result.now in
    let is = part_is c.self.inside.arena c.self.inside.groups.items c.args.self.now c.args.group s c.self.view_is c.requires.group c.index_mut-entry.ensures.value in
    record {
      whole = kept c.self.inside.arena c.time_out.new.arena c.self.inside.spare c.self.inside.groups.items c.self.inside.names.items c.args.group s c.time_out.new.group c.self.invariant.whole is c.time_out.ensures.change;
      tables = tables_same c.self.inside.arena c.time_out.new.arena c.self.inside.groups.items c.args.group s c.time_out.new.group (groups_in c.self.invariant.whole) is c.time_out.ensures.change c.self.inside.tables.items c.self.invariant.tables c.time_out.ensures.next
          (ap length c.time_out.ensures.items ∙ length-map (tickets_of c.self.inside.arena s.lists) (timed_out_by c.args.due.now)) c.time_out.ensures.serials;
    }

pub returns-clause-items : goal.returns-clause-items
returns-clause-items c =
    let s = c.index_mut-entry.result.now in
    let is = part_is c.self.inside.arena c.self.inside.groups.items c.args.self.now c.args.group s c.self.view_is c.requires.group c.index_mut-entry.ensures.value in
    rw (← c.self.view_is) (items_now c.self.inside.arena c.time_out.new.arena c.self.inside.groups.items c.args.group s c.time_out.new.group (groups_in c.self.invariant.whole) is c.time_out.ensures.change (map (timed_out_by c.args.due.now)) c.time_out.ensures.items)

pub returns-clause-count : goal.returns-clause-count
returns-clause-count c =
    let s = c.index_mut-entry.result.now in
    let is = part_is c.self.inside.arena c.self.inside.groups.items c.args.self.now c.args.group s c.self.view_is c.requires.group c.index_mut-entry.ensures.value in
    rw (← c.self.view_is) (c.time_out.ensures.count ∙ sym (shown_length c.self.inside.arena c.self.inside.groups.items c.args.group s is (filter (is_due_by c.args.due.now))))

pub returns-clause-left : goal.returns-clause-left
returns-clause-left c =
    let s = c.index_mut-entry.result.now in
    let is = part_is c.self.inside.arena c.self.inside.groups.items c.args.self.now c.args.group s c.self.view_is c.requires.group c.index_mut-entry.ensures.value in
    rw (← c.self.view_is) (else_is c.self.inside.arena c.time_out.new.arena c.self.inside.groups.items c.args.group s c.time_out.new.group (groups_in c.self.invariant.whole) is c.time_out.ensures.change c.time_out.ensures.next)
