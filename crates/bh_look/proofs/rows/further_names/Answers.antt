use Rattle.std.proofs.Common.{◌≡◌, ℕ, ◌∷◌, List, ◌∙◌, sym, ap, arith, is_some, false}
use Rattle.std.proofs.lemmas.Grind.{common_steps}
use Rattle.std.specs.HashMap.{get}
use Rattle.std.specs.Option.{option_or}
use Rattle.bh_look.specs.Rows.{same_numbers}
use Rattle.bh_look.proofs.Naming.{name_among, noted_now}
use Rattle.bh_look.proofs.rows.further_names.Goals as goal

pub loop-name-preserved-in_ok-insert : goal.loop-name-preserved-in_ok-insert
loop-name-preserved-in_ok-insert c = λ like number.
    let e : List ℕ × (ℕ × ℕ) = (c.in-Some.name.now, (c.from.result, c.from-in-loop-name.result)) in
    let iter : c.loop-name.name-iterator ≡ e ∷ c.next.new.self = grind (arith, common_steps) in
    let absent : is_some (get same_numbers c.loop-name.names e.1) ≡ false = sym c.contains_key.ensures ∙ c.if-not-contains_key.true in
    noted_now c.loop-name.names e c.next.new.self like number c.insert.new.self absent c.in_ok-insert.ensures.updates ∙ ap (λ rest. option_or (get same_numbers c.loop-name.names (like, number)) (name_among like number rest)) (sym iter) ∙ c.loop-name.invariant like number
