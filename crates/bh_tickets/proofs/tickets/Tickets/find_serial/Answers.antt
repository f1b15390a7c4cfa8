use Rattle.std.proofs.Common.{ap, ◌∙◌, rules}
use Rattle.std.specs.Option.{option_map}
use Rattle.std.proofs.lemmas.Option.{slice_get-map}
use Rattle.bh_serials.specs.TableView.{TableView, slot_of}
use Rattle.bh_tickets.specs.Whole.{group_of}
use Rattle.bh_tickets.proofs.Tables.{read_is, serial_at, serial_none_at, table_lt}
use Rattle.bh_tickets.proofs.Whole.{part_there, groups_in}
use Rattle.bh_tickets.proofs.tickets.Tickets.find_serial.Goals as goal

pub index-requires : goal.index-requires
index-requires c =
    let p = part_there c.self.inside.arena c.self.inside.groups.items c.args.self.now c.args.group c.self.view_is c.requires in
    let had = c.self.invariant.tables.each c.args.group (group_of c.self.inside.arena p.0) (slice_get-map (group_of c.self.inside.arena) c.self.inside.groups.items c.args.group ∙ ap (option_map (group_of c.self.inside.arena)) p.1) in
    let lt = table_lt c.self.inside.tables.items c.args.group had.table had.here in
    search (rules, lt)

pub returns-clause-found : goal.returns-clause-found
returns-clause-found c =
    let p = part_there c.self.inside.arena c.self.inside.groups.items c.args.self.now c.args.group c.self.view_is c.requires in
    let had = c.self.invariant.tables.each c.args.group (group_of c.self.inside.arena p.0) (slice_get-map (group_of c.self.inside.arena) c.self.inside.groups.items c.args.group ∙ ap (option_map (group_of c.self.inside.arena)) p.1) in
    let read = read_is c.self.inside.tables.items c.args.group c.index.result.now had.table had.here c.index.ensures in
    rw (← c.self.view_is) (serial_at c.self.inside.arena c.self.inside.groups.items c.args.group p.0 (groups_in c.self.invariant.whole) p.1 had.table had.fits c.args.serial c.find.result (c.find.ensures ∙ ap (λ (t : TableView). slot_of t.entries c.args.serial) read))

pub returns-clause-none : goal.returns-clause-none
returns-clause-none c =
    let p = part_there c.self.inside.arena c.self.inside.groups.items c.args.self.now c.args.group c.self.view_is c.requires in
    let had = c.self.invariant.tables.each c.args.group (group_of c.self.inside.arena p.0) (slice_get-map (group_of c.self.inside.arena) c.self.inside.groups.items c.args.group ∙ ap (option_map (group_of c.self.inside.arena)) p.1) in
    let read = read_is c.self.inside.tables.items c.args.group c.index.result.now had.table had.here c.index.ensures in
    rw (← c.self.view_is) (serial_none_at c.self.inside.arena c.self.inside.groups.items c.args.group p.0 (groups_in c.self.invariant.whole) p.1 had.table had.fits c.args.serial c.find.result (c.find.ensures ∙ ap (λ (t : TableView). slot_of t.entries c.args.serial) read))
