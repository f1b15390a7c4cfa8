use Rattle.std.proofs.Common.{sym, true≢false}
use Rattle.bh_props.proofs.Short.{not_listed}
use Rattle.bh_props.proofs.names.Names.is_listed.Goals as goal

pub returns-in-Err : goal.returns-in-Err
returns-in-Err c = sym (not_listed c.args.self.now.texts.keys c.args.name.now c.args.self.now.short (λ fits. true≢false (sym (c.in-Err.ensures.variant.1 fits))))
