use Rattle.std.proofs.Common.{◌≡◌, ◌+◌, ◌-◌, Some, min, set, ap, arith, rules, subst, sym, ◌∙◌}
use Rattle.std.specs.Prelude.{slice_get}
use Rattle.std.specs.Option.{option_map}
use Rattle.std.proofs.lemmas.Option.{slice_get-map}
use Rattle.bh_cache.proofs.Walks.{arena_is}
use Rattle.bh_tickets.specs.Tables.{IsTable}
use Rattle.bh_tickets.specs.TicketsView.{GroupTickets, HasPlace, TicketsView, no_tickets_in}
use Rattle.bh_tickets.specs.Whole.{group_of, groups_of, view_of}
use Rattle.bh_tickets.proofs.Chosen.{chosen, chosen_apart, chosen_enough, chosen_few, chosen_giver, chosen_lt, chosen_taker, chosen_there, filled_here, filled_others, filled_place, filled_whole}
use Rattle.bh_tickets.proofs.Tables.{place_near, table_empty, tables_put, tables_seen}
use Rattle.bh_tickets.proofs.tickets.Tickets.add_group.Goals as goal

pub index-requires : goal.index-requires
index-requires c =
    let lt = chosen_there (c.in_ok-from.ensures.keeps.whole _ _ c.self.invariant.whole) c.in_ok-from.ensures.ok c.in_ok-place.ensures.ok in
    search (rules, lt)

pub take_slots-requires-clause-giver : goal.take_slots-requires-clause-giver
take_slots-requires-clause-giver c = chosen_giver (chosen (c.in_ok-from.ensures.keeps.whole _ _ c.self.invariant.whole) c.in_ok-from.ensures.ok c.in_ok-place.ensures.ok c.index.ensures)

pub take_slots-requires-clause-taker : goal.take_slots-requires-clause-taker
take_slots-requires-clause-taker c = chosen_taker (chosen (c.in_ok-from.ensures.keeps.whole _ _ c.self.invariant.whole) c.in_ok-from.ensures.ok c.in_ok-place.ensures.ok c.index.ensures)

pub take_slots-requires-clause-apart : goal.take_slots-requires-clause-apart
take_slots-requires-clause-apart c = chosen_apart (chosen (c.in_ok-from.ensures.keeps.whole _ _ c.self.invariant.whole) c.in_ok-from.ensures.ok c.in_ok-place.ensures.ok c.index.ensures)

pub len_of-requires : goal.len_of-requires
len_of-requires c = let giver = chosen_giver (chosen (c.in_ok-from.ensures.keeps.whole _ _ c.self.invariant.whole) c.in_ok-from.ensures.ok c.in_ok-place.ensures.ok c.index.ensures) in (omega arith, (omega arith, omega (arith, giver.there, giver.numbered.settled)))

pub overflow_sub-left_unmade : goal.overflow_sub-left_unmade
overflow_sub-left_unmade c =
    let k = chosen (c.in_ok-from.ensures.keeps.whole _ _ c.self.invariant.whole) c.in_ok-from.ensures.ok c.in_ok-place.ensures.ok c.index.ensures in
    omega (arith, chosen_enough k c.min-made.result (c.min-made.ensures ∙ ap (min c.args.slots) c.len_of.ensures), c.unmade_of.ensures k.part k.is)

pub vacant-requires-clause-few : goal.vacant-requires-clause-few
vacant-requires-clause-few c =
    let k = chosen (c.in_ok-from.ensures.keeps.whole _ _ c.self.invariant.whole) c.in_ok-from.ensures.ok c.in_ok-place.ensures.ok c.index.ensures in
    let few = chosen_few k c.take_slots.new.arena c.min-made.result c.take_slots.ensures in
    omega (arith, few.0, c.unmade_of.ensures k.part k.is)

pub vacant-requires-2-clause-few : goal.vacant-requires-2-clause-few
vacant-requires-2-clause-few c =
    let k = chosen (c.in_ok-from.ensures.keeps.whole _ _ c.self.invariant.whole) c.in_ok-from.ensures.ok c.in_ok-place.ensures.ok c.index.ensures in
    let few = chosen_few k c.take_slots.new.arena c.min-made.result c.take_slots.ensures in
    omega (arith, few.1, c.requires.few, c.min-made.ensures)

pub index_mut-requires : goal.index_mut-requires
index_mut-requires c =
    let lt = chosen_lt (chosen (c.in_ok-from.ensures.keeps.whole _ _ c.self.invariant.whole) c.in_ok-from.ensures.ok c.in_ok-place.ensures.ok c.index.ensures) in
    search (rules, lt)

pub put_table-requires-clause-place : goal.put_table-requires-clause-place
put_table-requires-clause-place c =
    let a = c.ready_spare.new.arena in
    let b = c.take_place.new.arena in
    let ss = c.self.inside.groups.items in
    let rs = c.take_place.new.groups.items in
    let place = c.in_ok-place.place in
    let k = chosen (c.in_ok-from.ensures.keeps.whole _ _ c.self.invariant.whole) c.in_ok-from.ensures.ok c.in_ok-place.ensures.ok c.index.ensures in
    let tables = tables_seen c.self.inside.arena a ss ss c.self.inside.tables.items c.reserve.new.self.items (c.in_ok-from.ensures.keeps.view _ _ c.self.invariant.whole) c.reserve.ensures.items c.self.invariant.tables in
    let here : slice_get (groups_of b rs) place ≡ Some (group_of b c.index.result.now) = slice_get-map (group_of b) rs place ∙ ap (option_map (group_of b)) k.here in
    let near = place_near (groups_of a ss) (groups_of b rs) c.reserve.new.self.items place (group_of b c.index.result.now) tables k.placed.others here in
    search (rules, near)

pub invariant_of-self-2 : goal.invariant_of-self-2
invariant_of-self-2 c =
    let a = c.ready_spare.new.arena in
    let d = c.take_slots.new.arena in
    let ss = c.self.inside.groups.items in
    let rs = c.take_place.new.groups.items in
    let place = c.in_ok-place.place in
    let slots = c.args.slots in
    let k = chosen (c.in_ok-from.ensures.keeps.whole _ _ c.self.invariant.whole) c.in_ok-from.ensures.ok c.in_ok-place.ensures.ok c.index.ensures in
    let arena = arena_is d 0 (omega (arith, c.partition.ensures.families)) c.partition.ensures.lists in
    let made_is = c.min-made.ensures ∙ ap (min c.args.slots) c.len_of.ensures in
    let spare_unmade = c.unmade_of.ensures k.part k.is in
    let here = filled_here k c.take_slots.ensures arena made_is spare_unmade c.vacant.ensures c.vacant-2.ensures in
    record {
      whole = filled_whole k c.take_slots.ensures arena made_is spare_unmade c.vacant.ensures c.vacant-2.ensures;
      tables = tables_put (groups_of a ss) (groups_of d (set rs place c.vacant-2.result)) c.reserve.new.self.items c.put_table.new.tables.items place (tables_seen c.self.inside.arena a ss ss c.self.inside.tables.items c.reserve.new.self.items (c.in_ok-from.ensures.keeps.view _ _ c.self.invariant.whole) c.reserve.ensures.items c.self.invariant.tables) (filled_others k c.take_slots.ensures arena made_is spare_unmade c.vacant.ensures c.vacant-2.ensures) c.put_table.ensures.others
          (λ g e. record { table = c.in_ok-table.table; here = c.put_table.ensures.here; fits = (let f : Some (no_tickets_in slots) ≡ Some g = sym here ∙ e in let q : no_tickets_in slots ≡ g = cc in subst (λ (z : GroupTickets). IsTable z c.in_ok-table.table) q (subst (IsTable (no_tickets_in slots)) (sym c.in_ok-table.ensures) (table_empty slots slots (omega arith)))) });
    }

pub returns-clause-ok : goal.returns-clause-ok
returns-clause-ok c =
    let d = c.take_slots.new.arena in
    let place = c.in_ok-place.place in
    let k = chosen (c.in_ok-from.ensures.keeps.whole _ _ c.self.invariant.whole) c.in_ok-from.ensures.ok c.in_ok-place.ensures.ok c.index.ensures in
    let arena = arena_is d 0 (omega (arith, c.partition.ensures.families)) c.partition.ensures.lists in
    let made_is = c.min-made.ensures ∙ ap (min c.args.slots) c.len_of.ensures in
    let spare_unmade = c.unmade_of.ensures k.part k.is in
    subst (λ (v : TicketsView). HasPlace place c.args.slots v (view_of d (set c.take_place.new.groups.items place c.vacant-2.result))) (c.in_ok-from.ensures.keeps.view _ _ c.self.invariant.whole ∙ c.self.view_is)
    (filled_place k c.take_slots.ensures arena made_is spare_unmade c.vacant.ensures c.vacant-2.ensures)
