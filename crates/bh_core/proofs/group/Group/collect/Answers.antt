use Rattle.std.proofs.Common.{◌≡◌, Some, sym, ap, subst, ◌∙◌}
use Rattle.std.specs.Prelude.{find}
use Rattle.bh_base.specs.declared.ticket.TicketState.{TicketState}
use Rattle.bh_base.specs.declared.ticket.TicketState.TheVariants as ticket
use Rattle.bh_base.specs.Machine.{Outcome, collected, collected_in}
use Rattle.bh_base.specs.Runs.{View}
use Rattle.bh_base.specs.Tickets.{is_held_at}
use Rattle.bh_core.specs.GroupView.{group_view, view_in}
use Rattle.bh_core.specs.Stepping.{IsBounded, IsDoneBy}
use Rattle.bh_core.proofs.Own.{found_is, held_first, known_found}
use Rattle.bh_core.proofs.group.Group.collect.Goals as goal
use Rattle.bh_tickets.specs.TicketsView.{group_at}

pub release_holder-requires-clause-held : goal.release_holder-requires-clause-held
release_holder-requires-clause-held c = held_first (group_at c.args.tickets.now c.self.inside.place) c.args.serial c.in-Some.slot c.in-Some.ensures.found

pub fall_back-requires-clause-known : goal.fall_back-requires-clause-known
fall_back-requires-clause-known c =
    let g = c.self.inside in
    let bounded : IsBounded (view_in c.args.tickets.now (group_view g)) = rw (← c.self.view_is) at c.requires.bounded in
    rw (← c.self.view_is) (known_found (group_at c.args.tickets.now g.place) c.in-Some.slot (is_held_at c.args.serial) c.get-ticket.result.now g.props bounded.known c.in-Some.ensures.found c.get-ticket.ensures)

pub returns-in-NeedsFallback-clause-done : goal.returns-in-NeedsFallback-clause-done
returns-in-NeedsFallback-clause-done c =
    let g = c.self.inside in
    let v : View = view_in c.args.tickets.now (group_view g) in
    let n = c.args.serial in
    let t = c.get-ticket.result.now in
    let found : find (is_held_at n) v.present.tickets ≡ Some t = found_is (group_at c.args.tickets.now g.place) c.in-Some.slot (is_held_at n) t c.in-Some.ensures.found c.get-ticket.ensures in
    let same : collected_in (ticket.NeedsFallback c.in-NeedsFallback.cause) t.command n v.present ≡ collected (find (is_held_at n) v.present.tickets) n v.present =
    ap (λ (s : TicketState). collected_in s t.command n v.present) (sym c.in-NeedsFallback.is) ∙ ap (λ o. collected o n v.present) (sym found) in
    let did : IsDoneBy v (collected_in (ticket.NeedsFallback c.in-NeedsFallback.cause) t.command n v.present) c.fall_back.new.reply (view_in c.fall_back.new.tickets c.fall_back.new.self) = rw (← c.self.view_is) at c.fall_back.ensures.done in
    rw (← c.self.view_is) (subst (λ (out : Outcome). IsDoneBy v out c.fall_back.new.reply (view_in c.fall_back.new.tickets c.fall_back.new.self)) same did)
