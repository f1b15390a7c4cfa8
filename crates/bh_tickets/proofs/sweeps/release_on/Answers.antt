use Rattle.std.proofs.Common.{◌≡◌, ◌≢◌, ℕ, length, true, false, Some, slice_get, arith, ap, subst, sym, ◌∙◌}
use Rattle.bh_base.specs.Tickets.{is_kept}
use Rattle.bh_slot_arena.specs.Slots.{slots_on}
use Rattle.bh_cache.specs.declared.lists.GroupLists.{GroupLists}
use Rattle.bh_cache.specs.Slots.{has_one, is_live_list, ticket_at}
use Rattle.bh_tickets.specs.GroupSlots.{IsNumbered}
use Rattle.bh_cache.proofs.Along.{along_at, along_next, along_on, along_unless}
use Rattle.bh_tickets.proofs.Along.{on_live}
use Rattle.bh_tickets.proofs.Own.{not_live_free}
use Rattle.bh_tickets.proofs.ReleasedAll.{released_more}
use Rattle.bh_tickets.proofs.sweeps.release_on.Goals as goal

-- a list with tickets is not that of free slots
not_free : (g : GroupLists) (l : ℕ) → IsNumbered g → is_live_list g l ≡ true → l ≢ g.free
not_free g l numbered live e =
    let z : true ≡ false = sym live ∙ ap (is_live_list g) e ∙ not_live_free g numbered in cc

pub next-ahead-requires : goal.next-ahead-requires
next-ahead-requires c =
    let at : slice_get (slots_on c.args.arena.now 0 c.args.list) c.loop.counter ≡ Some c.in-Some.slot = sym c.loop.invariant.ahead ∙ c.in-Some.is in
    let on = along_on (slots_on c.loop.arena 0 c.args.list) (slots_on c.args.arena.now 0 c.args.list) c.loop.counter c.in-Some.slot c.loop.invariant.along at in
    (omega arith, (omega arith, c.loop.invariant.released.swept.change.arena.within c.args.list c.in-Some.slot on))

pub release_at-requires-clause-there : goal.release_at-requires-clause-there
release_at-requires-clause-there c =
    let at : slice_get (slots_on c.args.arena.now 0 c.args.list) c.loop.counter ≡ Some c.in-Some.slot = sym c.loop.invariant.ahead ∙ c.in-Some.is in
    let on = along_on (slots_on c.loop.arena 0 c.args.list) (slots_on c.args.arena.now 0 c.args.list) c.loop.counter c.in-Some.slot c.loop.invariant.along at in
    let live = subst (λ (g : GroupLists). is_live_list g c.args.list ≡ true) (sym c.loop.invariant.released.swept.change.lists) c.requires.live in
    on_live c.loop.arena c.loop.group.lists c.args.list c.in-Some.slot c.loop.invariant.released.swept.change.arena live on

pub loop-preserved : goal.loop-preserved
loop-preserved c =
    let old = slots_on c.args.arena.now 0 c.args.list in
    let now = slots_on c.loop.arena 0 c.args.list in
    let along = c.loop.invariant.along in
    let at : slice_get (slots_on c.args.arena.now 0 c.args.list) c.loop.counter ≡ Some c.in-Some.slot = sym c.loop.invariant.ahead ∙ c.in-Some.is in
    let live = subst (λ (g : GroupLists). is_live_list g c.args.list ≡ true) (sym c.loop.invariant.released.swept.change.lists) c.requires.live in
    let other = not_free c.loop.group.lists c.args.list c.loop.invariant.released.swept.change.group.numbered live in
    record {
      end = c.loop.invariant.end;
      here = omega (arith, c.loop.invariant.end);
      ahead = c.next-ahead.ensures c.args.list (length along.behind) (along_at now old c.loop.counter c.in-Some.slot along at) ∙ along_next now old c.loop.counter c.in-Some.slot along at;
      along = along_unless now old c.loop.counter c.in-Some.slot along at (c.loop.invariant.released.swept.change.arena.once c.args.list) (has_one is_kept (ticket_at c.loop.arena c.loop.group.lists c.in-Some.slot)) (slots_on c.release_at.new.arena 0 c.args.list) (c.release_at.ensures.released.walk c.args.list other);
      released = released_more old c.loop.counter c.in-Some.slot c.args.arena.now c.args.group.now c.loop.arena c.loop.group c.release_at.new.arena c.release_at.new.group at c.loop.invariant.released c.release_at.ensures.released;
      table = λ fits. c.release_at.ensures.table (c.loop.invariant.table fits);
    }
