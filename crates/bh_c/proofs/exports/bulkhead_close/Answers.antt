use Rattle.std.proofs.Common.{refl, sym, subst}
use Rattle.bh_c.specs.declared.outcome.Outcome.TheVariants.{Done, NotOpen}
use Rattle.bh_c.specs.Exports.{CloseTold}
use Rattle.bh_c.proofs.exports.bulkhead_close.Goals as goal

pub returns-in-Some-clause-told : goal.returns-in-Some-clause-told
returns-in-Some-clause-told c = (Done, c.code.ensures, subst (λ held. CloseTold held Done) (sym c.in-Some.ensures.taken) refl)

pub returns-in-None-clause-told : goal.returns-in-None-clause-told
returns-in-None-clause-told c = (NotOpen, c.code-in-None.ensures, subst (λ held. CloseTold held NotOpen) (sym c.in-None.ensures.taken) refl)
