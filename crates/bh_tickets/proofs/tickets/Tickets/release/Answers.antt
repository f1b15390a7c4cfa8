use Rattle.std.proofs.Common.{filter, set, subst, sym, rules}
use Rattle.bh_tickets.specs.Tables.{IsTable}
use Rattle.bh_tickets.specs.Whole.{group_of}
use Rattle.bh_tickets.proofs.Tables.{put_elsewhere, put_here, own_table, read_is, table_lt, table_of, tables_changed}
use Rattle.bh_base.specs.Tickets.{is_kept}
use Rattle.bh_tickets.proofs.Whole.{part_is, whole_kept, items_now, else_is, items_few, set_same, get_lt, groups_in, kept}
use Rattle.bh_tickets.proofs.tickets.Tickets.release.Goals as goal

pub release-requires-clause-group : goal.release-requires-clause-group
release-requires-clause-group c =
    let s = c.index_mut-entry.result.now in
    let is = part_is c.self.inside.arena c.self.inside.groups.items c.args.self.now c.args.group s c.self.view_is c.requires.group c.index_mut-entry.ensures.value in
    (groups_in c.self.invariant.whole).each c.args.group s is

pub invariant_of-self : goal.invariant_of-self
invariant_of-self c =
    let s = c.index_mut-entry.result.now in
    let is = part_is c.self.inside.arena c.self.inside.groups.items c.args.self.now c.args.group s c.self.view_is c.requires.group c.index_mut-entry.ensures.value in
    let ts = c.self.inside.tables.items in
    let change = c.release.ensures.released.change in
    let had = table_of c.self.inside.arena c.release.new.arena c.self.inside.groups.items c.args.group s c.release.new.group (groups_in c.self.invariant.whole) is change ts c.self.invariant.tables in
    let read = read_is ts c.args.group c.index_mut.result.now had.table had.here c.index_mut.ensures.value in
    record {
      whole = kept c.self.inside.arena c.release.new.arena c.self.inside.spare c.self.inside.groups.items c.self.inside.names.items c.args.group s c.release.new.group c.self.invariant.whole is change;
      tables = tables_changed c.self.inside.arena c.release.new.arena c.self.inside.groups.items c.args.group s c.release.new.group (groups_in c.self.invariant.whole) is change ts c.self.invariant.tables
          (set ts c.args.group c.release.new.table) c.release.new.table (λ j ne. put_elsewhere ts c.args.group j c.release.new.table ne) (put_here ts c.args.group c.release.new.table (table_lt ts c.args.group had.table had.here))
          (c.release.ensures.table (subst (IsTable (group_of c.self.inside.arena s)) (sym read) had.fits));
    }

pub returns-clause-items : goal.returns-clause-items
returns-clause-items c =
    let s = c.index_mut-entry.result.now in
    let is = part_is c.self.inside.arena c.self.inside.groups.items c.args.self.now c.args.group s c.self.view_is c.requires.group c.index_mut-entry.ensures.value in
    rw (← c.self.view_is) (items_now c.self.inside.arena c.release.new.arena c.self.inside.groups.items c.args.group s c.release.new.group (groups_in c.self.invariant.whole) is c.release.ensures.released.change (filter is_kept) c.release.ensures.released.items)

pub returns-clause-few : goal.returns-clause-few
returns-clause-few c =
    let s = c.index_mut-entry.result.now in
    let is = part_is c.self.inside.arena c.self.inside.groups.items c.args.self.now c.args.group s c.self.view_is c.requires.group c.index_mut-entry.ensures.value in
    items_few c.release.new.arena _ c.args.group c.release.new.group (whole_kept c.self.inside.arena c.release.new.arena c.self.inside.groups.items c.args.group s c.release.new.group (groups_in c.self.invariant.whole) is c.release.ensures.released.change) (set_same c.self.inside.groups.items c.args.group c.release.new.group (get_lt c.self.inside.groups.items c.args.group s is))

pub returns-clause-left : goal.returns-clause-left
returns-clause-left c =
    let s = c.index_mut-entry.result.now in
    let is = part_is c.self.inside.arena c.self.inside.groups.items c.args.self.now c.args.group s c.self.view_is c.requires.group c.index_mut-entry.ensures.value in
    rw (← c.self.view_is) (else_is c.self.inside.arena c.release.new.arena c.self.inside.groups.items c.args.group s c.release.new.group (groups_in c.self.invariant.whole) is c.release.ensures.released.change c.release.ensures.released.next)

pub index_mut-requires : goal.index_mut-requires
index_mut-requires c =
    let s = c.index_mut-entry.result.now in
    let is = part_is c.self.inside.arena c.self.inside.groups.items c.args.self.now c.args.group s c.self.view_is c.requires.group c.index_mut-entry.ensures.value in
    let had = own_table c.self.inside.arena c.self.inside.groups.items c.self.inside.tables.items c.args.group s c.self.invariant.tables is in
    let lt = table_lt c.self.inside.tables.items c.args.group had.table had.here in
    search (rules, lt)
