use Rattle.std.proofs.Common.{◌+◌, arith, subst, sym}
use Rattle.bh_cache.specs.Slots.{Slots}
use Rattle.bh_tickets.specs.Spare.{IsGathered}
use Rattle.bh_tickets.proofs.Gathered.{gathered_more, gathered_none}
use Rattle.bh_tickets.proofs.spare.gather.Goals as goal

pub loop-offset-init : goal.loop-offset-init
loop-offset-init c = gathered_none c.args.family c.args.first c.args.to c.args.arena.now

pub append-requires : goal.append-requires
append-requires c = (
  omega arith,
  (
    omega arith,
    (
      omega (arith, c.requires.there, c.loop-offset.invariant.lists, c.loop-offset-test.true),
      (omega (arith, c.requires.to, c.loop-offset.invariant.lists), λ e. c.requires.apart (omega (arith, e)) (omega (arith, e, c.loop-offset-test.true))),
    ),
  ),
)

pub loop-offset-preserved : goal.loop-offset-preserved
loop-offset-preserved c =
    subst (λ (z : Slots). IsGathered c.args.family c.args.first (c.loop-offset.offset + 1) c.args.to c.args.arena.now z) (sym c.append.ensures)
    (gathered_more c.args.family c.args.first c.loop-offset.offset c.args.to c.args.arena.now c.loop-offset.arena c.loop-offset.invariant
    (omega (arith, c.requires.family, c.partition.ensures.families)) (omega (arith, c.requires.there, c.loop-offset-test.true)) c.requires.to
    (λ low high. c.requires.apart low (omega (arith, high, c.loop-offset-test.true))))
