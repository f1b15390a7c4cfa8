use Rattle.std.proofs.Common.{◌≡◌, rules, ◌+◌, ◌<◌, length, set, Option, arith, ap, refl, subst, ◌∙◌}
use Rattle.std.specs.Prelude.{◌^◌}
use Rattle.std.specs.Option.{option_map}
use Rattle.std.proofs.lemmas.Option.{slice_get-map}
use Rattle.bh_cache.proofs.Walks.{arena_is}
use Rattle.bh_tickets.specs.declared.group_slots.GroupSlots.{GroupSlots}
use Rattle.bh_tickets.specs.TicketsView.{TicketsView, no_tickets_in}
use Rattle.bh_tickets.specs.Whole.{IsWhole, group_of, groups_of}
use Rattle.bh_tickets.proofs.Tables.{own_table, table_lt, tables_left}
use Rattle.bh_tickets.proofs.Beside.{apart_back}
use Rattle.bh_tickets.proofs.Rebuilt.{given_view, given_whole, spare_apart, spare_max, spare_vacant, whole_group}
use Rattle.bh_tickets.proofs.Whole.{part_is}
use Rattle.bh_tickets.proofs.tickets.Tickets.retire_group.Goals as goal

pub give_slots-requires-clause-giver : goal.give_slots-requires-clause-giver
give_slots-requires-clause-giver c =
    let a = c.self.inside.arena in
    let ss = c.self.inside.groups.items in
    let s = c.index.result.now in
    let whole = subst (λ (q : Option GroupSlots). IsWhole a q ss c.self.inside.names.items) c.in-Some.is c.self.invariant.whole in
    whole_group a c.in-Some.spare ss c.self.inside.names.items whole c.args.place s (part_is a ss c.args.self.now c.args.place s c.self.view_is c.requires c.index.ensures)

pub give_slots-requires-clause-taker : goal.give_slots-requires-clause-taker
give_slots-requires-clause-taker c =
    let a = c.self.inside.arena in
    let ss = c.self.inside.groups.items in
    spare_vacant a c.in-Some.spare ss c.self.inside.names.items (subst (λ (q : Option GroupSlots). IsWhole a q ss c.self.inside.names.items) c.in-Some.is c.self.invariant.whole)

pub give_slots-requires-clause-apart : goal.give_slots-requires-clause-apart
give_slots-requires-clause-apart c =
    let a = c.self.inside.arena in
    let ss = c.self.inside.groups.items in
    let s = c.index.result.now in
    let whole = subst (λ (q : Option GroupSlots). IsWhole a q ss c.self.inside.names.items) c.in-Some.is c.self.invariant.whole in
    apart_back c.in-Some.spare.lists s.lists (spare_apart a c.in-Some.spare ss c.self.inside.names.items whole c.args.place s (part_is a ss c.args.self.now c.args.place s c.self.view_is c.requires c.index.ensures))

pub vacant-requires-clause-few : goal.vacant-requires-clause-few
vacant-requires-clause-few c =
    let a = c.self.inside.arena in
    let ss = c.self.inside.groups.items in
    let s = c.index.result.now in
    let whole = subst (λ (q : Option GroupSlots). IsWhole a q ss c.self.inside.names.items) c.in-Some.is c.self.invariant.whole in
    let is = part_is a ss c.args.self.now c.args.place s c.self.view_is c.requires c.index.ensures in
    omega (arith, c.give_slots.ensures.got, spare_max a c.in-Some.spare ss c.self.inside.names.items whole, (whole.all.each 0 c.in-Some.spare refl).few, (whole_group a c.in-Some.spare ss c.self.inside.names.items whole c.args.place s is).few)

pub invariant_of-self : goal.invariant_of-self
invariant_of-self c =
    let a = c.self.inside.arena in
    let b = c.give_slots.new.arena in
    let ss = c.self.inside.groups.items in
    let s = c.index.result.now in
    let whole = subst (λ (q : Option GroupSlots). IsWhole a q ss c.self.inside.names.items) c.in-Some.is c.self.invariant.whole in
    let is = part_is a ss c.args.self.now c.args.place s c.self.view_is c.requires c.index.ensures in
    let few : length b.payloads + b.reserved < 2 ^ 32 = omega (arith, c.partition.ensures.limit, c.partition.ensures.few) in
    let rs = set ss c.args.place c.vacant-2.result in
    let ts = c.self.inside.tables.items in
    let arena = arena_is b 0 (omega (arith, c.partition.ensures.families)) c.partition.ensures.lists in
    let seen : groups_of b rs ≡ set (groups_of a ss) c.args.place (no_tickets_in 0) =
    ap (λ (v : TicketsView). v.groups) (given_view a b c.in-Some.spare c.vacant.result ss c.self.inside.names.items c.args.place s c.vacant-2.result whole is c.give_slots.ensures arena few c.vacant.ensures c.vacant-2.ensures) in
    record {
      whole = given_whole a b c.in-Some.spare c.vacant.result ss c.self.inside.names.items c.args.place s c.vacant-2.result whole is c.give_slots.ensures arena few c.vacant.ensures c.vacant-2.ensures;
      tables = tables_left (groups_of a ss) (groups_of b rs) ts c.args.place (group_of a s) c.index_mut-2.result.now c.clear.new.self c.self.invariant.tables (slice_get-map (group_of a) ss c.args.place ∙ ap (option_map (group_of a)) is) seen c.index_mut-2.ensures.value c.clear.ensures;
    }

pub returns : goal.returns
returns c =
    let a = c.self.inside.arena in
    let b = c.give_slots.new.arena in
    let ss = c.self.inside.groups.items in
    let s = c.index.result.now in
    let whole = subst (λ (q : Option GroupSlots). IsWhole a q ss c.self.inside.names.items) c.in-Some.is c.self.invariant.whole in
    let is = part_is a ss c.args.self.now c.args.place s c.self.view_is c.requires c.index.ensures in
    let few : length b.payloads + b.reserved < 2 ^ 32 = omega (arith, c.partition.ensures.limit, c.partition.ensures.few) in
    given_view a b c.in-Some.spare c.vacant.result ss c.self.inside.names.items c.args.place s c.vacant-2.result whole is c.give_slots.ensures (arena_is b 0 (omega (arith, c.partition.ensures.families)) c.partition.ensures.lists) few c.vacant.ensures c.vacant-2.ensures
    ∙ ap (λ (v : TicketsView). record v { groups = set v.groups c.args.place (no_tickets_in 0) }) c.self.view_is

pub index_mut-requires-2 : goal.index_mut-requires-2
index_mut-requires-2 c =
    let a = c.self.inside.arena in
    let ss = c.self.inside.groups.items in
    let ts = c.self.inside.tables.items in
    let s = c.index.result.now in
    let is = part_is a ss c.args.self.now c.args.place s c.self.view_is c.requires c.index.ensures in
    let had = own_table a ss ts c.args.place s c.self.invariant.tables is in
    let lt = table_lt ts c.args.place had.table had.here in
    search (rules, lt)
