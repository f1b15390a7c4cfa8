use Rattle.std.proofs.Common.{◌≡◌, ◌+◌, true, arith, subst, sym}
use Rattle.bh_slot_arena.specs.Slots.{slots_on}
use Rattle.bh_cache.specs.declared.lists.GroupLists.{GroupLists}
use Rattle.bh_tickets.specs.GroupSlots.{IsRising}
use Rattle.bh_tickets.specs.Sweeps.{IsSinceFrom, IsTimedFrom, IsTimedOut}
use Rattle.bh_tickets.proofs.Rising.{queue_rises, running_rises}
use Rattle.bh_tickets.proofs.SinceAll.{open_after, timed_out_since}
use Rattle.bh_tickets.proofs.TimedAll.{timed_few, timed_out_all}
use Rattle.bh_tickets.proofs.sweeps.time_out_open.Goals as goal

pub time_out_on-queued-requires-clause-rising : goal.time_out_on-queued-requires-clause-rising
time_out_on-queued-requires-clause-rising c = queue_rises c.args.arena.now c.args.group.now c.requires.arena c.requires.group

pub time_out_on-running-requires-clause-rising : goal.time_out_on-running-requires-clause-rising
time_out_on-running-requires-clause-rising c =
    let first = c.time_out_on-queued.ensures.timed in
    subst (λ (g : GroupLists). c.running_rises-rising.result ≡ true → IsRising c.time_out_on-queued.new.arena.payloads (slots_on c.time_out_on-queued.new.arena 0 g.running)) first.swept.change.lists
    (running_rises c.time_out_on-queued.new.arena c.time_out_on-queued.new.group c.running_rises-rising.result first.swept.change.arena first.swept.change.group c.running_rises-rising.ensures)

pub overflow_add-result : goal.overflow_add-result
overflow_add-result c =
    let first = timed_few (slots_on c.args.arena.now 0 c.args.group.now.lists.queued) c.args.arena.now c.args.group.now c.args.due.now c.time_out_on-queued.result c.time_out_on-queued.new.arena c.time_out_on-queued.new.group c.time_out_on-queued.ensures.timed in
    let second = timed_few (slots_on c.time_out_on-queued.new.arena 0 c.args.group.now.lists.running) c.time_out_on-queued.new.arena c.time_out_on-queued.new.group c.args.due.now c.time_out_on-running.result c.time_out_on-running.new.arena c.time_out_on-running.new.group c.time_out_on-running.ensures.timed in
    omega (arith, first, second, c.time_out_on-queued.ensures.timed.swept.change.frame.slots, c.partition.ensures.limit, c.partition.ensures.few)

pub returns : goal.returns
returns c =
    let a = c.args.arena.now in
    let s = c.args.group.now in
    let due = c.args.due.now in
    let b = c.time_out_on-queued.new.arena in
    let r = c.time_out_on-queued.new.group in
    let d = c.time_out_on-running.new.arena in
    let u = c.time_out_on-running.new.group in
    let first = c.time_out_on-queued.ensures.timed in
    let second = subst (λ (g : GroupLists). IsTimedFrom (slots_on b 0 g.running) b r due c.time_out_on-running.result d u) (sym first.swept.change.lists) c.time_out_on-running.ensures.timed in
    let since = subst (λ (g : GroupLists). IsSinceFrom (slots_on b 0 g.running) b r due c.time_out_on-queued.new.since c.time_out_on-running.new.since) (sym first.swept.change.lists) c.time_out_on-running.ensures.since in
    let timed = timed_out_all a s due c.time_out_on-queued.result c.time_out_on-running.result b r d u c.requires.group first second in
    let own = open_after a s due c.time_out_on-queued.result c.time_out_on-running.result b r d u c.requires.group first second _ c.time_out_on-queued.new.since c.time_out_on-running.new.since c.time_out_on-queued.ensures.since since in
    subst (IsTimedOut a s due (c.time_out_on-queued.result + c.time_out_on-running.result) d) (sym c.set_open_since.ensures) (timed_out_since a s due (c.time_out_on-queued.result + c.time_out_on-running.result) d u c.time_out_on-running.new.since timed c.requires.known own)
