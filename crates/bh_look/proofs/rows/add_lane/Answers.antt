use Rattle.std.proofs.Common.{map, OnOk, Result, Ok, Err, sym, ap, subst, ◌∙◌, arith}
use Rattle.std.proofs.lemmas.List.{length-map}
use Rattle.bh_look.specs.Rows.{ArePlaces, row_said}
use Rattle.bh_look.proofs.RowPlaces.{added_new, added_there, place_within, places_new, places_there}
use Rattle.bh_look.proofs.rows.add_lane.Goals as goal

on_ok : {T E P Q : Type 0} (r : Result T E) → OnOk r P → (P → Q) → OnOk r Q
on_ok (Ok x) p f = f p
on_ok (Err e) p f = tt

pub index_mut-requires : goal.index_mut-requires
index_mut-requires c =
    let at = sym (c.requires.each c.args.group c.args.command) ∙ sym c.in-Some.ensures.value in
    let within = place_within c.args.group c.args.command (map row_said c.args.rows.now.items) c.in-Some.place.now at in
    omega (arith, within, length-map c.args.rows.now.items row_said, c.args.rows.now.ok.0)

pub returns-in-Some-clause-places : goal.returns-in-Some-clause-places
returns-in-Some-clause-places c = on_ok c.add.result c.add.ensures.tally
    (places_there c.args.rows.now.items c.args.places.now c.args.group c.args.command c.args.lane.now.tally c.requires c.in-Some.place.now c.index_mut.result.now c.add.new.self c.in-Some.ensures.value c.index_mut.ensures.value)

pub returns-in-Some-clause-rows : goal.returns-in-Some-clause-rows
returns-in-Some-clause-rows c = on_ok c.add.result c.add.ensures.tally
    (added_there c.args.rows.now.items c.args.places.now c.args.group c.args.command c.args.lane.now.tally c.requires c.in-Some.place.now c.index_mut.result.now c.add.new.self c.in-Some.ensures.value c.index_mut.ensures.value)

pub returns-clause-places : goal.returns-clause-places
returns-clause-places c = subst (λ items. ArePlaces (map row_said items) c.insert.new.self) (sym c.in_ok-push.ensures.items)
    (places_new c.args.rows.now.items c.args.places.now c.args.group c.args.command c.args.lane.now.tally c.requires c.new-row.result c.add-2.new.self (sym c.in_default.ensures.value) c.new-row.ensures c.in_ok-add.ensures.tally c.insert.new.self c.len.result (c.len.ensures ∙ c.args.rows.now.ok.0) c.in_ok-insert.ensures.updates)

pub returns-clause-rows : goal.returns-clause-rows
returns-clause-rows c = ap (map row_said) c.in_ok-push.ensures.items ∙ added_new c.args.rows.now.items c.args.places.now c.args.group c.args.command c.args.lane.now.tally c.requires c.new-row.result c.add-2.new.self (sym c.in_default.ensures.value) c.new-row.ensures c.in_ok-add.ensures.tally
