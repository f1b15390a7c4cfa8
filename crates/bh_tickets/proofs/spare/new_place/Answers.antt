use Rattle.std.proofs.Common.{◌≡◌, ◌++◌, ◌∷◌, [], List, length, ap, ◌∙◌, rules, subst, sym}
use Rattle.bh_tickets.specs.declared.group_slots.GroupSlots.{GroupSlots}
use Rattle.bh_tickets.specs.declared.names.NameLists.{NameLists}
use Rattle.bh_tickets.specs.GroupSlots.{no_slot_taken}
use Rattle.bh_tickets.specs.Spare.{GetsPlace, StaysWhole}
use Rattle.bh_tickets.proofs.Ready.{more_stays, new_gets}
use Rattle.bh_tickets.proofs.spare.new_place.Goals as goal

pub returns-in_err-lists-clause-err : goal.returns-in_err-lists-clause-err
returns-in_err-lists-clause-err c =
    let ss = c.args.groups.now.items in
    let stays : (ns : List NameLists) → StaysWhole c.args.arena.now ss ns c.add_lists.new.arena c.reserve.new.self.items ns =
    λ ns. subst (λ (xs : List GroupSlots). StaysWhole c.args.arena.now ss ns c.add_lists.new.arena xs ns) (sym c.reserve.ensures.items) (more_stays c.args.arena.now c.add_lists.new.arena ss ns c.add_lists.ensures.more) in
    search (rules, stays)

pub returns-clause-ok : goal.returns-clause-ok
returns-clause-ok c =
    let a = c.args.arena.now in
    let b = c.add_lists.new.arena in
    let ss = c.args.groups.now.items in
    let g = c.in_ok-lists.lists in
    let items : c.push_reserved.new.self.items ≡ ss ++ no_slot_taken g 0 0 ∷ [] = c.push_reserved.ensures.items ∙ (λ i. c.reserve.ensures.items i ++ c.new.ensures i ∷ []) in
    let size : c.len-place.result ≡ length c.reserve.new.self.items = search rules in
    let place : c.len-place.result ≡ length ss = size ∙ ap (λ (xs : List GroupSlots). length xs) c.reserve.ensures.items in
    λ ns. subst (λ k. GetsPlace c.args.chains k a ss ns b c.push_reserved.new.self.items ns) (sym place)
    (subst (λ (xs : List GroupSlots). GetsPlace c.args.chains (length ss) a ss ns b xs ns) (sym items) (new_gets c.args.chains c.requires.some a b g ss ns c.in_ok-lists.ensures.ok c.in_ok-lists.ensures.lists))
