use Rattle.std.proofs.Common.{rules, ◌≡◌, true, false, arith}
use Rattle.bh_cache.specs.Slots.{ticket_at}
use Rattle.bh_tickets.specs.Changes.{is_due_by}
use Rattle.bh_tickets.proofs.Releases.{there_at, there_within}
use Rattle.bh_tickets.proofs.Times.{not_due, has_timed_out}
use Rattle.bh_tickets.proofs.SinceAll.{since_due, since_stays}
use Rattle.bh_tickets.proofs.group_slots.time_out_at.Goals as goal

pub get-ticket-requires : goal.get-ticket-requires
get-ticket-requires c = (omega arith, there_within c.args.arena.now c.args.group.now c.args.slot c.requires.there)

pub change-requires-clause-allowed : goal.change-requires-clause-allowed
change-requires-clause-allowed c =
    let here = there_at c.args.arena.now c.args.group.now c.args.slot c.get-ticket.result.now c.requires.there c.get-ticket.ensures in
    record { was = c.get-ticket.result.now; here = here; allowed = tt }

pub returns-then-not-is_due : goal.returns-then-not-is_due
returns-then-not-is_due c =
    let here = there_at c.args.arena.now c.args.group.now c.args.slot c.get-ticket.result.now c.requires.there c.get-ticket.ensures in
    let off : is_due_by c.args.due.now c.get-ticket.result.now ≡ false = search rules in
    record {
      timed = not_due c.args.arena.now c.args.group.now c.args.slot c.get-ticket.result.now c.args.due.now c.requires.arena c.requires.group here off;
      since = since_stays (ticket_at c.args.arena.now c.args.group.now.lists c.args.slot) c.get-ticket.result.now c.args.due.now c.args.since.now c.since_with.result here c.since_with.ensures.earlier c.since_with.ensures.own;
    }

pub returns : goal.returns
returns c =
    let here = there_at c.args.arena.now c.args.group.now c.args.slot c.get-ticket.result.now c.requires.there c.get-ticket.ensures in
    let on : is_due_by c.args.due.now c.get-ticket.result.now ≡ true = search rules in
    record {
      timed = has_timed_out c.args.arena.now c.args.group.now c.args.slot c.get-ticket.result.now c.args.due.now c.requires.arena c.requires.group here c.change.new.arena c.change.new.group (c.change.ensures c.get-ticket.result.now here) on;
      since = since_due (ticket_at c.args.arena.now c.args.group.now.lists c.args.slot) c.get-ticket.result.now c.args.due.now c.args.since.now here on;
    }
