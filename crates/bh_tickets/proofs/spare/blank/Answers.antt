use Rattle.std.proofs.Common.{List, set, ap, arith, sym, ◌∙◌}
use Rattle.std.proofs.lemmas.List.{set-get_or}
use Rattle.std.proofs.lemmas.Option.{get_or_from_slice_get}
use Rattle.bh_base.specs.declared.ticket.Ticket.{Ticket}
use Rattle.bh_tickets.proofs.spare.blank.Goals as goal

pub returns-else-get-ne0 : goal.returns-else-get-ne0
returns-else-get-ne0 c =
    let a = c.args.arena.now in
    let t = c.get.result.now in
    let here = get_or_from_slice_get a.payloads c.args.slot t t (sym c.get.ensures) in
    let same = ap (λ (ts : List Ticket). record a { payloads = ts }) (ap (set a.payloads c.args.slot) (sym here) ∙ set-get_or a.payloads c.args.slot t) in
    (t, sym same, omega (arith, c.if-get-ne0.false))
