use Rattle.std.proofs.Common.{◌∙◌, sym, refl}
use Rattle.bh_base.specs.declared.step.Op.TheVariants as op
use Rattle.bh_core.specs.CoreView.{view_at}
use Rattle.bh_turns.proofs.Idling.{assigned, by_wear, not_there}
use Rattle.bh_turns.proofs.turn.is_idle.Goals as goal

pub returns-then-not-is_registered : goal.returns-then-not-is_registered
returns-then-not-is_registered c = sym (not_there (view_at c.args.core.now c.args.group.0) (sym c.is_registered.ensures ∙ c.if-not-is_registered.true))

pub returns-then-startable : goal.returns-then-startable
returns-then-startable c = sym (assigned (view_at c.args.core.now c.args.group.0) c.startable.result (λ v at. c.startable.ensures.known v 0 at) c.if-startable.true)

pub returns : goal.returns
returns c =
    by_wear (view_at c.args.core.now c.args.group.0) c.startable.result c.worn.result (sym c.is_registered.ensures ∙ c.if-not-is_registered.false)
    (λ v at. c.startable.ensures.known v 0 at) c.if-startable.false (λ v at. c.worn.ensures.known v op.Start 0 at refl)
