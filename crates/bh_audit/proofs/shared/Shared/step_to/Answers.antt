use Rattle.std.specs.Prelude.{⊤}
use Rattle.bh_audit.proofs.Looking.{step_missing}
use Rattle.bh_audit.proofs.shared.Shared.step_to.Goals as goal

pub returns-clause-missing : goal.returns-clause-missing
returns-clause-missing g c = step_missing (λ moment. ⊤) _ c.args.step _ _ c.ask.new.reply c.ask.result c.ask.ensures.0 c.ask.ensures.1
