use Rattle.std.proofs.Common.{refl}
use Rattle.bh_c.specs.declared.outcome.Outcome.TheVariants.{NotOpen}
use Rattle.bh_c.proofs.Refused.{nothing_kept}
use Rattle.bh_c.proofs.exports.bulkhead_command.Goals as goal

pub returns-in_default : goal.returns-in_default
returns-in_default c = (NotOpen, c.code.ensures, nothing_kept _ _ _ _ c.in_default.ensures.taken c.in_default.ensures.emptied refl)
