use Rattle.std.proofs.Common.{◌≡◌, Some, sym, ap, ◌∙◌, arith}
use Rattle.std.specs.Prelude.{slice_get}
use Rattle.bh_slot_arena.specs.Slots.{slots_on}
use Rattle.bh_cache.specs.Slots.{has_one}
use Rattle.bh_tickets.specs.Changes.{is_due_by}
use Rattle.bh_tickets.proofs.Exists.{any_here, any_next}
use Rattle.bh_tickets.proofs.Rising.{none_from}
use Rattle.bh_tickets.proofs.walks.any_due_on.Goals as goal

pub returns-then-is_due : goal.returns-then-is_due
returns-then-is_due c =
    let at = sym c.loop.invariant.ahead ∙ c.in-Some.is in
    let passes = ap (has_one (is_due_by c.args.due.now)) (sym c.get-ticket.ensures) ∙ sym c.is_due.ensures ∙ c.if-is_due.true in
    sym (c.loop.invariant.rest ∙ any_here (λ x. has_one (is_due_by c.args.due.now) (slice_get c.args.arena.now.payloads x)) (slots_on c.args.arena.now 0 c.args.list) c.loop.counter c.in-Some.slot at passes)

pub returns-then-is_young : goal.returns-then-is_young
returns-then-is_young c =
    let at : slice_get (slots_on c.args.arena.now 0 c.args.list) c.loop.counter ≡ Some c.in-Some.slot = sym c.loop.invariant.ahead ∙ c.in-Some.is in
    sym (c.loop.invariant.rest ∙ none_from c.args.due.now c.args.arena.now.payloads (slots_on c.args.arena.now 0 c.args.list) c.loop.counter c.in-Some.slot c.get-ticket.result.now at (c.requires.rising c.if-rising.true) c.get-ticket.ensures (sym c.is_young.ensures ∙ c.if-is_young.true))

pub loop-preserved : goal.loop-preserved
loop-preserved c =
    let at = sym c.loop.invariant.ahead ∙ c.in-Some.is in
    let fails = ap (has_one (is_due_by c.args.due.now)) (sym c.get-ticket.ensures) ∙ sym c.is_due.ensures ∙ c.if-is_due.false in
    record {
      end = c.loop.invariant.end;
      here = omega (arith, c.loop.invariant.end);
      ahead = c.next-ahead.ensures c.args.list c.loop.counter at;
      rest = c.loop.invariant.rest ∙ any_next (λ x. has_one (is_due_by c.args.due.now) (slice_get c.args.arena.now.payloads x)) (slots_on c.args.arena.now 0 c.args.list) c.loop.counter c.in-Some.slot at fails;
    }
