use Rattle.std.proofs.Common.{◌≡◌, ◌<◌, sym, ap, ◌∙◌, arith}
use Rattle.bh_base.specs.declared.props.CommandProps.{CommandProps}
use Rattle.bh_base.specs.Commands.{props_of}
use Rattle.bh_base.specs.declared.reply.Reply.TheVariants as reply
use Rattle.bh_base.specs.declared.ticket.TicketState.TheVariants as ticket
use Rattle.bh_base.specs.Machine.{changed, collected_in, in_fallback_count}
use Rattle.bh_base.specs.Runs.{View}
use Rattle.bh_base.specs.Tickets.{is_held_at}
use Rattle.bh_core.specs.GroupView.{group_view, view_in}
use Rattle.bh_core.proofs.Ops.{done_quiet, fall_runs}
use Rattle.bh_core.proofs.Own.{held_first, view_changed}
use Rattle.bh_core.proofs.group.Group.fall_back.Goals as goal
use Rattle.bh_tickets.specs.Changes.{fallback_started}
use Rattle.bh_tickets.specs.TicketsView.{group_at}

pub answer_holder-requires-clause-held : goal.answer_holder-requires-clause-held
answer_holder-requires-clause-held c = held_first (group_at c.args.tickets.now c.self.inside.place) c.args.serial c.args.slot (rw (← c.self.view_is) at c.requires.held)

pub answer_holder-requires-then-in_fallback_count-own-clause-held : goal.answer_holder-requires-then-in_fallback_count-own-clause-held
answer_holder-requires-then-in_fallback_count-own-clause-held c = held_first (group_at c.args.tickets.now c.self.inside.place) c.args.serial c.args.slot (rw (← c.self.view_is) at c.requires.held)

pub returns-clause-done : goal.returns-clause-done
returns-clause-done c =
    let ts = c.args.tickets.now in
    let us = c.start_fallback.new.self in
    let g = group_view c.self.inside in
    let n = c.args.serial in
    let v : View = view_in ts g in
    let own : c.command-own.result.now ≡ props_of c.args.command g.props = c.command-own.ensures in
    let free : in_fallback_count c.args.command v.present < (props_of c.args.command v.present.props).fallback_permits = omega (arith, c.in_fallback_count.ensures, c.if-in_fallback_count-own.false, ap (λ (p : CommandProps). p.fallback_permits) own) in
    rw (← c.self.view_is) (done_quiet v (collected_in (ticket.NeedsFallback c.args.cause) c.args.command n v.present) (reply.RunFallback c.args.cause) (changed (is_held_at n) (fallback_started c.args.cause) v.present) (view_in us g)
    (fall_runs v.present c.args.command n c.args.cause (ap (λ (p : CommandProps). p.fallback_on) (sym own) ∙ c.if-not-own.false) free)
    (view_changed ts us g (is_held_at n) (fallback_started c.args.cause) (c.start_fallback.ensures.items (is_held_at n) (rw (← c.self.view_is) at c.requires.held)) c.start_fallback.ensures.left.next))
