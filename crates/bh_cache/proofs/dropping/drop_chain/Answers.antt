use Rattle.std.proofs.Common.{◌≡◌, ◌+◌, Some, slice_get, length, take, sym, ◌∙◌, arith}
use Rattle.bh_base.specs.Tickets.{is_cached_in}
use Rattle.bh_slot_arena.specs.Slots.{slots_on}
use Rattle.bh_cache.specs.Slots.{IsArena, has_one}
use Rattle.bh_cache.proofs.Along.{along_at, along_more, along_next, along_on}
use Rattle.bh_cache.proofs.Dropped.{dropped_few, dropped_more}
use Rattle.bh_cache.proofs.Found.{live_on_chain}
use Rattle.bh_cache.proofs.Walks.{arena_is}
use Rattle.bh_cache.proofs.Noting.{noted_more}
use Rattle.bh_cache.proofs.dropping.drop_chain.Goals as goal

pub next-ahead-requires : goal.next-ahead-requires
next-ahead-requires c =
    let now = slots_on c.loop.arena 2 c.args.chain in
    let old = slots_on c.args.arena.now 2 c.args.chain in
    let at : slice_get old c.loop.counter ≡ Some c.in-Some.slot = sym c.loop.invariant.ahead ∙ c.in-Some.is in
    let arena : IsArena c.loop.arena 2 = arena_is c.loop.arena 2 (omega (arith, c.partition.ensures.families)) c.partition.ensures.lists in
    (omega arith, (omega arith, arena.within c.args.chain c.in-Some.slot (along_on now old c.loop.counter c.in-Some.slot c.loop.invariant.along at)))

pub drop_at-number-requires-clause-slot : goal.drop_at-number-requires-clause-slot
drop_at-number-requires-clause-slot c =
    let now = slots_on c.loop.arena 2 c.args.chain in
    let old = slots_on c.args.arena.now 2 c.args.chain in
    let at : slice_get old c.loop.counter ≡ Some c.in-Some.slot = sym c.loop.invariant.ahead ∙ c.in-Some.is in
    let arena : IsArena c.loop.arena 2 = arena_is c.loop.arena 2 (omega (arith, c.partition.ensures.families)) c.partition.ensures.lists in
    arena.within c.args.chain c.in-Some.slot (along_on now old c.loop.counter c.in-Some.slot c.loop.invariant.along at)

pub drop_at-number-requires-clause-live : goal.drop_at-number-requires-clause-live
drop_at-number-requires-clause-live c =
    let now = slots_on c.loop.arena 2 c.args.chain in
    let old = slots_on c.args.arena.now 2 c.args.chain in
    let at : slice_get old c.loop.counter ≡ Some c.in-Some.slot = sym c.loop.invariant.ahead ∙ c.in-Some.is in
    let arena : IsArena c.loop.arena 2 = arena_is c.loop.arena 2 (omega (arith, c.partition.ensures.families)) c.partition.ensures.lists in
    live_on_chain c.loop.arena c.args.lists.now c.loop.invariant.dropped.chained arena c.args.chain c.in-Some.slot c.requires.from c.requires.to (along_on now old c.loop.counter c.in-Some.slot c.loop.invariant.along at)

pub overflow_add-number : goal.overflow_add-number
overflow_add-number c =
    let old = slots_on c.args.arena.now 2 c.args.chain in
    let at : slice_get old c.loop.counter ≡ Some c.in-Some.slot = sym c.loop.invariant.ahead ∙ c.in-Some.is in
    let all = dropped_more c.args.context c.args.lists.now old c.loop.counter c.in-Some.slot c.args.arena.now c.loop.arena c.drop_at-number.new.arena c.loop.number c.drop_at-number.result at c.loop.invariant.dropped c.drop_at-number.ensures.dropped in
    let few = dropped_few c.args.context c.args.lists.now (take (c.loop.counter + 1) old) c.args.arena.now c.drop_at-number.new.arena (c.loop.number + c.drop_at-number.result) all in
    omega (arith, few, c.loop.invariant.dropped.slots, c.partition.ensures.limit, c.partition.ensures.few)

pub loop-preserved : goal.loop-preserved
loop-preserved c =
    let now = slots_on c.loop.arena 2 c.args.chain in
    let old = slots_on c.args.arena.now 2 c.args.chain in
    let along = c.loop.invariant.along in
    let at : slice_get old c.loop.counter ≡ Some c.in-Some.slot = sym c.loop.invariant.ahead ∙ c.in-Some.is in
    let arena : IsArena c.loop.arena 2 = arena_is c.loop.arena 2 (omega (arith, c.partition.ensures.families)) c.partition.ensures.lists in
    let goes = has_one (is_cached_in c.args.context) (slice_get c.loop.arena.payloads c.in-Some.slot) in
    record {
      end = c.loop.invariant.end;
      here = omega (arith, c.loop.invariant.end);
      ahead = c.next-ahead.ensures c.args.chain (length along.behind) (along_at now old c.loop.counter c.in-Some.slot along at) ∙ along_next now old c.loop.counter c.in-Some.slot along at;
      along = along_more now old c.loop.counter c.in-Some.slot along at (arena.once c.args.chain) goes (slots_on c.drop_at-number.new.arena 2 c.args.chain) (c.drop_at-number.ensures.walk c.args.chain (λ e. absurd (omega (arith, e, c.requires.from, c.requires.chained.lists.contexts_behind))));
      dropped = dropped_more c.args.context c.args.lists.now old c.loop.counter c.in-Some.slot c.args.arena.now c.loop.arena c.drop_at-number.new.arena c.loop.number c.drop_at-number.result at c.loop.invariant.dropped c.drop_at-number.ensures.dropped;
      noted = noted_more c.args.context c.args.lists.now old c.loop.counter c.in-Some.slot c.args.arena.now c.loop.arena c.loop.number c.args.notes.now c.loop.notes c.drop_at-number.new.notes at c.loop.invariant.dropped c.loop.invariant.noted c.drop_at-number.ensures.noted;
    }
