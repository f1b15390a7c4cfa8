use Rattle.std.proofs.Common.{sym, true≢false}
use Rattle.bh_props.proofs.Short.{no_place}
use Rattle.bh_props.proofs.names.Names.place_of.Goals as goal

pub returns-in-Err-clause-value : goal.returns-in-Err-clause-value
returns-in-Err-clause-value c = sym (no_place c.args.self.now.texts.keys c.args.name.now c.args.self.now.short (λ fits. true≢false (sym (c.in-Err.ensures.variant.1 fits))))
