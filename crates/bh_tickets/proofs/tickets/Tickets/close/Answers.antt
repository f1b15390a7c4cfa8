use Rattle.std.proofs.Common.{map, length, ap, sym, ◌∙◌}
use Rattle.std.proofs.lemmas.List.{length-map}
use Rattle.bh_cache.specs.Slots.{tickets_of}
use Rattle.bh_tickets.proofs.Tables.{tables_same}
use Rattle.bh_cache.specs.Cache.{uncached_in}
use Rattle.bh_base.specs.Tickets.{is_cached_in}
use Rattle.bh_tickets.proofs.Whole.{part_is, items_now, else_is, shown_count, groups_in, kept}
use Rattle.bh_tickets.proofs.tickets.Tickets.close.Goals as goal

pub drop_cached-requires-clause-group : goal.drop_cached-requires-clause-group
drop_cached-requires-clause-group c =
    let s = c.index_mut-entry.result.now in
    let is = part_is c.self.inside.arena c.self.inside.groups.items c.args.self.now c.args.group s c.self.view_is c.requires.group c.index_mut-entry.ensures.value in
    (groups_in c.self.invariant.whole).each c.args.group s is

pub invariant_of-self : goal.invariant_of-self
invariant_of-self c =
    let s = c.index_mut-entry.result.now in
    let is = part_is c.self.inside.arena c.self.inside.groups.items c.args.self.now c.args.group s c.self.view_is c.requires.group c.index_mut-entry.ensures.value in
    record {
      whole = kept c.self.inside.arena c.drop_cached.new.arena c.self.inside.spare c.self.inside.groups.items c.self.inside.names.items c.args.group s c.drop_cached.new.group c.self.invariant.whole is c.drop_cached.ensures.change;
      tables = tables_same c.self.inside.arena c.drop_cached.new.arena c.self.inside.groups.items c.args.group s c.drop_cached.new.group (groups_in c.self.invariant.whole) is c.drop_cached.ensures.change c.self.inside.tables.items c.self.invariant.tables c.drop_cached.ensures.next
          (ap length c.drop_cached.ensures.items ∙ length-map (tickets_of c.self.inside.arena s.lists) (uncached_in c.args.context)) c.drop_cached.ensures.serials;
    }

pub returns-clause-items : goal.returns-clause-items
returns-clause-items c =
    let s = c.index_mut-entry.result.now in
    let is = part_is c.self.inside.arena c.self.inside.groups.items c.args.self.now c.args.group s c.self.view_is c.requires.group c.index_mut-entry.ensures.value in
    rw (← c.self.view_is) (items_now c.self.inside.arena c.drop_cached.new.arena c.self.inside.groups.items c.args.group s c.drop_cached.new.group (groups_in c.self.invariant.whole) is c.drop_cached.ensures.change (map (uncached_in c.args.context)) c.drop_cached.ensures.items)

pub returns-clause-count : goal.returns-clause-count
returns-clause-count c =
    let s = c.index_mut-entry.result.now in
    let is = part_is c.self.inside.arena c.self.inside.groups.items c.args.self.now c.args.group s c.self.view_is c.requires.group c.index_mut-entry.ensures.value in
    rw (← c.self.view_is) (c.drop_cached.ensures.count ∙ sym (shown_count c.self.inside.arena c.self.inside.groups.items c.args.group s is (is_cached_in c.args.context)))

pub returns-clause-left : goal.returns-clause-left
returns-clause-left c =
    let s = c.index_mut-entry.result.now in
    let is = part_is c.self.inside.arena c.self.inside.groups.items c.args.self.now c.args.group s c.self.view_is c.requires.group c.index_mut-entry.ensures.value in
    rw (← c.self.view_is) (else_is c.self.inside.arena c.drop_cached.new.arena c.self.inside.groups.items c.args.group s c.drop_cached.new.group (groups_in c.self.invariant.whole) is c.drop_cached.ensures.change c.drop_cached.ensures.next)
