use Rattle.std.proofs.Common.{List, rules, subst, sym}
use Rattle.bh_tickets.specs.declared.names.NameLists.{NameLists}
use Rattle.bh_tickets.specs.Spare.{StaysWhole}
use Rattle.bh_tickets.proofs.Exchanged.{exchanged_gets}
use Rattle.bh_tickets.proofs.NamesLeft.{names_lt}
use Rattle.bh_tickets.proofs.Ready.{more_stays}
use Rattle.bh_tickets.proofs.Whole.{get_lt}
use Rattle.bh_tickets.proofs.spare.fit_place.Goals as goal

pub returns-in_err-number-clause-err : goal.returns-in_err-number-clause-err
returns-in_err-number-clause-err c =
    let a = c.args.arena.now in
    let b = c.ready_names.new.arena in
    let ss = c.args.groups.now.items in
    let ns = c.args.names.now.items in
    let more = c.in_err-number.ensures.err in
    let stays : StaysWhole a ss ns b ss c.ready_names.new.left.items = subst (λ (xs : List NameLists). StaysWhole a ss ns b ss xs) (sym more.1) (more_stays a b ss ns more.0) in
    search (rules, stays)

pub exchange-requires-clause-place : goal.exchange-requires-clause-place
exchange-requires-clause-place c = get_lt c.args.groups.now.items c.args.place c.requires.left.entry c.requires.left.here

pub exchange-requires-clause-number : goal.exchange-requires-clause-number
exchange-requires-clause-number c =
    let there = c.in_ok-number.ensures.ok.there in
    names_lt c.ready_names.new.left.items c.in_ok-number.number there.entry there.here

pub returns-clause-ok : goal.returns-clause-ok
returns-clause-ok c =
    exchanged_gets c.args.chains c.args.place c.in_ok-number.number c.args.arena.now c.ready_names.new.arena c.args.groups.now.items c.exchange.new.groups.items c.args.names.now.items c.ready_names.new.left.items c.exchange.new.left.items
    c.requires.left c.in_ok-number.ensures.ok c.exchange.ensures
