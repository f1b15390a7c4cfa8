use Rattle.std.proofs.Common.{refl}
use Rattle.bh_lint.proofs.Tables.{further}
use Rattle.bh_lint.proofs.unknown.is_further.Goals as goal

pub returns-in-Ok : goal.returns-in-Ok
returns-in-Ok c =
    further c.args.commands.now.entries c.args.key.now c.in-Ok.text c.contains_key.result c.in-Ok.ensures.ok (c.in-Ok.ensures.variant.0 refl) c.contains_key.ensures
