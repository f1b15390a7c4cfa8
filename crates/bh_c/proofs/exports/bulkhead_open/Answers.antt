use Rattle.std.proofs.Common.{sym, subst}
use Rattle.std.specs.Prelude.{IsSomeAnd}
use Rattle.bh_c.specs.declared.outcome.Outcome.TheVariants.{Done}
use Rattle.bh_c.specs.Exports.{IsOpened}
use Rattle.bh_props.specs.SettingsFile.{settings_in}
use Rattle.bh_c.proofs.exports.bulkhead_open.Goals as goal

pub returns-in-Ok : goal.returns-in-Ok
returns-in-Ok c = (Done, c.code.ensures, subst (λ held. IsSomeAnd held (IsOpened (settings_in c.args.settings.now))) (sym c.put.ensures) c.in-Ok.ensures.opened)
