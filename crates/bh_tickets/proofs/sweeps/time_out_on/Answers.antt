use Rattle.std.proofs.Common.{◌≡◌, ◌≢◌, ◌+◌, length, true, Some, slice_get, take, arith, subst, sym, ◌∙◌}
use Rattle.bh_slot_arena.specs.Slots.{slots_on}
use Rattle.bh_cache.specs.declared.lists.GroupLists.{GroupLists}
use Rattle.bh_cache.specs.Slots.{has_one, is_live_list, ticket_at}
use Rattle.bh_tickets.specs.Changes.{is_due_by}
use Rattle.bh_cache.proofs.Along.{along_at, along_more, along_next, along_on}
use Rattle.bh_tickets.proofs.Along.{on_live}
use Rattle.bh_tickets.proofs.TimedAll.{timed_few, timed_more}
use Rattle.bh_tickets.proofs.SinceAll.{since_next}
use Rattle.bh_tickets.proofs.Rising.{since_early, timed_early}
use Rattle.bh_tickets.proofs.Releases.{there_at}
use Rattle.bh_tickets.proofs.sweeps.time_out_on.Goals as goal

pub get-ticket-requires : goal.get-ticket-requires
get-ticket-requires c =
    let at : slice_get (slots_on c.args.arena.now 0 c.args.list) c.loop.counter ≡ Some c.in-Some.slot = sym c.loop.invariant.ahead ∙ c.in-Some.is in
    let on = along_on (slots_on c.loop.arena 0 c.args.list) (slots_on c.args.arena.now 0 c.args.list) c.loop.counter c.in-Some.slot c.loop.invariant.along at in
    (omega arith, c.loop.invariant.timed.swept.change.arena.within c.args.list c.in-Some.slot on)

pub next-ahead-requires : goal.next-ahead-requires
next-ahead-requires c =
    let at : slice_get (slots_on c.args.arena.now 0 c.args.list) c.loop.counter ≡ Some c.in-Some.slot = sym c.loop.invariant.ahead ∙ c.in-Some.is in
    let on = along_on (slots_on c.loop.arena 0 c.args.list) (slots_on c.args.arena.now 0 c.args.list) c.loop.counter c.in-Some.slot c.loop.invariant.along at in
    (omega arith, (omega arith, c.loop.invariant.timed.swept.change.arena.within c.args.list c.in-Some.slot on))

pub returns-then-is_young : goal.returns-then-is_young
returns-then-is_young c =
    let a = c.args.arena.now in
    let s = c.args.group.now in
    let xs = slots_on a 0 c.args.list in
    let at : slice_get xs c.loop.counter ≡ Some c.in-Some.slot = sym c.loop.invariant.ahead ∙ c.in-Some.is in
    let on = along_on (slots_on c.loop.arena 0 c.args.list) xs c.loop.counter c.in-Some.slot c.loop.invariant.along at in
    let live = subst (λ (g : GroupLists). is_live_list g c.args.list ≡ true) (sym c.loop.invariant.timed.swept.change.lists) c.requires.live in
    let here = there_at c.loop.arena c.loop.group c.in-Some.slot c.get-ticket.result.now (on_live c.loop.arena c.loop.group.lists c.args.list c.in-Some.slot c.loop.invariant.timed.swept.change.arena live on) c.get-ticket.ensures in
    let young = sym c.is_young.ensures ∙ c.if-is_young.true in
    let rising = c.requires.rising c.if-rising.true in
    record {
      timed = timed_early a s c.args.due.now c.loop.number c.loop.arena c.loop.group xs c.loop.counter c.in-Some.slot c.get-ticket.result.now at rising c.loop.invariant.timed here young;
      since = rw c.min.ensures (since_early a s c.args.due.now c.loop.number c.loop.arena c.loop.group xs c.loop.counter c.in-Some.slot c.get-ticket.result.now at rising c.loop.invariant.timed here young c.args.since.now c.loop.since c.loop.invariant.since);
    }

pub time_out_at-number-requires-clause-there : goal.time_out_at-number-requires-clause-there
time_out_at-number-requires-clause-there c =
    let at : slice_get (slots_on c.args.arena.now 0 c.args.list) c.loop.counter ≡ Some c.in-Some.slot = sym c.loop.invariant.ahead ∙ c.in-Some.is in
    let on = along_on (slots_on c.loop.arena 0 c.args.list) (slots_on c.args.arena.now 0 c.args.list) c.loop.counter c.in-Some.slot c.loop.invariant.along at in
    let live = subst (λ (g : GroupLists). is_live_list g c.args.list ≡ true) (sym c.loop.invariant.timed.swept.change.lists) c.requires.live in
    on_live c.loop.arena c.loop.group.lists c.args.list c.in-Some.slot c.loop.invariant.timed.swept.change.arena live on

pub overflow_add-number : goal.overflow_add-number
overflow_add-number c =
    let at : slice_get (slots_on c.args.arena.now 0 c.args.list) c.loop.counter ≡ Some c.in-Some.slot = sym c.loop.invariant.ahead ∙ c.in-Some.is in
    let all = timed_more (slots_on c.args.arena.now 0 c.args.list) c.loop.counter c.in-Some.slot c.args.arena.now c.args.group.now c.args.due.now c.loop.number c.loop.arena c.loop.group c.time_out_at-number.result c.time_out_at-number.new.arena c.time_out_at-number.new.group at c.loop.invariant.timed c.time_out_at-number.ensures.timed in
    let few = timed_few (take (c.loop.counter + 1) (slots_on c.args.arena.now 0 c.args.list)) c.args.arena.now c.args.group.now c.args.due.now (c.loop.number + c.time_out_at-number.result) c.time_out_at-number.new.arena c.time_out_at-number.new.group all in
    omega (arith, few, c.partition.ensures.limit, c.partition.ensures.few)

pub loop-preserved : goal.loop-preserved
loop-preserved c =
    let old = slots_on c.args.arena.now 0 c.args.list in
    let now = slots_on c.loop.arena 0 c.args.list in
    let along = c.loop.invariant.along in
    let at : slice_get (slots_on c.args.arena.now 0 c.args.list) c.loop.counter ≡ Some c.in-Some.slot = sym c.loop.invariant.ahead ∙ c.in-Some.is in
    let other : c.args.list ≢ c.loop.group.lists.settled = subst (λ (g : GroupLists). c.args.list ≢ g.settled) (sym c.loop.invariant.timed.swept.change.lists) c.requires.open in
    record {
      end = c.loop.invariant.end;
      here = omega (arith, c.loop.invariant.end);
      ahead = c.next-ahead.ensures c.args.list (length along.behind) (along_at now old c.loop.counter c.in-Some.slot along at) ∙ along_next now old c.loop.counter c.in-Some.slot along at;
      along = along_more now old c.loop.counter c.in-Some.slot along at (c.loop.invariant.timed.swept.change.arena.once c.args.list) (has_one (is_due_by c.args.due.now) (ticket_at c.loop.arena c.loop.group.lists c.in-Some.slot)) (slots_on c.time_out_at-number.new.arena 0 c.args.list) (c.time_out_at-number.ensures.timed.walk c.args.list other);
      timed = timed_more old c.loop.counter c.in-Some.slot c.args.arena.now c.args.group.now c.args.due.now c.loop.number c.loop.arena c.loop.group c.time_out_at-number.result c.time_out_at-number.new.arena c.time_out_at-number.new.group at c.loop.invariant.timed c.time_out_at-number.ensures.timed;
      since = since_next old c.loop.counter c.in-Some.slot c.args.arena.now c.args.group.now c.args.due.now c.loop.number c.loop.arena c.loop.group c.args.since.now c.loop.since c.time_out_at-number.new.since at c.loop.invariant.timed c.loop.invariant.since c.time_out_at-number.ensures.since;
    }
