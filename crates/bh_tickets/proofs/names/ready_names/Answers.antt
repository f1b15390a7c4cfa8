use Rattle.std.proofs.Common.{◌≡◌, ℕ, ◌+◌, ◌++◌, ◌∷◌, [], List, length, ap, append-nil, ◌∙◌, arith, refl, rules, subst, sym}
use Rattle.bh_slot_arena.specs.Slots.{lists_in}
use Rattle.bh_tickets.specs.declared.names.NameLists.{NameLists}
use Rattle.bh_tickets.specs.Growth.{HasMoreLists, HasNewLists}
use Rattle.bh_tickets.specs.Spare.{GetsNames}
use Rattle.bh_tickets.proofs.AddedLists.{more_none, more_second, more_third}
use Rattle.bh_tickets.proofs.Exchanged.{made_names}
use Rattle.bh_tickets.proofs.names.ready_names.Goals as goal

pub returns-in_err-reserve-clause-err : goal.returns-in_err-reserve-clause-err
returns-in_err-reserve-clause-err c =
    let none : HasMoreLists c.args.arena.now c.args.arena.now = record { first = 0; second = 0; third = 0; lists = more_none c.args.arena.now } in
    search (rules, none)

pub returns-in_err-names-clause-err : goal.returns-in_err-names-clause-err
returns-in_err-names-clause-err c =
    let a = c.args.arena.now in
    let b = c.add_lists.new.self in
    let none : HasMoreLists a b = record { first = 0; second = 0; third = 0; lists = subst (HasNewLists 0 0 0 a) (sym c.in_err-names.ensures.err) (more_none a) } in
    search (rules, none, c.reserve.ensures.items)

pub returns-in_err-contexts-clause-err : goal.returns-in_err-contexts-clause-err
returns-in_err-contexts-clause-err c =
    let a = c.args.arena.now in
    let b = c.add_lists-2.new.self in
    let some : HasMoreLists a b =
    record { first = 0; second = c.args.chains; third = 0; lists = more_second 0 c.args.chains a a b (omega (arith, c.partition.ensures.families)) (more_none a) (c.in_err-contexts.ensures.err ∙ c.in_ok-names.ensures.ok) } in
    search (rules, some, c.reserve.ensures.items)

pub returns-clause-ok : goal.returns-clause-ok
returns-clause-ok c =
    let a = c.args.arena.now in
    let m = c.add_lists.new.self in
    let b = c.add_lists-2.new.self in
    let ns = c.args.left.now.items in
    let made : NameLists = record { names = c.in_ok-names.names; names_end = c.in_ok-names.names + c.args.chains; contexts = c.in_ok-contexts.contexts; contexts_end = c.in_ok-contexts.contexts + c.args.chains } in
    let second = more_second 0 c.args.chains a a m (omega (arith, c.partition.ensures.families)) (more_none a) c.in_ok-names.ensures.ok in
    let more = more_third 0 c.args.chains c.args.chains a m b (omega (arith, c.partition.ensures.families)) second c.in_ok-contexts.ensures.ok in
    let third = ap (λ (ls : List (List ℕ)). length ls) (second.third ∙ append-nil (lists_in a 2)) in
    let items : c.push_reserved.new.self.items ≡ ns ++ made ∷ [] = c.push_reserved.ensures.items ∙ ap (λ (xs : List NameLists). xs ++ made ∷ []) c.reserve.ensures.items in
    let size : c.len-number.result ≡ length c.reserve.new.self.items = search rules in
    let number : c.len-number.result ≡ length ns = size ∙ ap (λ (xs : List NameLists). length xs) c.reserve.ensures.items in
    subst (λ k. GetsNames c.args.chains k a ns b c.push_reserved.new.self.items) (sym number)
    (subst (λ (xs : List NameLists). GetsNames c.args.chains (length ns) a ns b xs) (sym items)
    (made_names c.args.chains c.requires.some a b ns made more c.in_ok-names.ensures.first (c.in_ok-contexts.ensures.first ∙ third) (record { names = refl; contexts = refl })))
