use Rattle.std.proofs.Common.{arith, ap, subst, sym, ◌∙◌}
use Rattle.bh_slot_arena.specs.Slots.{with_moved}
use Rattle.bh_cache.specs.Slots.{Slots}
use Rattle.bh_cache.proofs.Walks.{arena_is}
use Rattle.bh_tickets.specs.Spare.{IsTaken}
use Rattle.bh_tickets.proofs.Taken.{taken_one}
use Rattle.bh_tickets.proofs.spare.take_slot.Goals as goal

pub returns : goal.returns
returns c =
    let a = c.args.arena.now in
    let from = c.args.from.now in
    let to = c.args.to.now in
    let slot = c.in-Some.slot in
    let made = c.move_to_back.ensures.moved ∙ ap (with_moved 0 slot to.free) c.blank.ensures.1 in
    subst (λ (z : Slots). IsTaken 1 from to a z) (sym made)
    (taken_one a from to slot c.blank.ensures.0 c.requires.giver c.requires.taker c.requires.apart
    (arena_is a 0 (omega (arith, c.partition.ensures.families)) c.partition.ensures.lists)
    (arena_is a 1 (omega (arith, c.partition.ensures.families)) c.partition-2.ensures.lists)
    (arena_is a 2 (omega (arith, c.partition.ensures.families)) c.partition-3.ensures.lists)
    (sym c.front.ensures ∙ c.in-Some.is))
