use Rattle.bh_commands.proofs.RunStatus.{run-whole, run-front}
use Rattle.bh_commands.proofs.run.run_script.Goals as goal

pub returns-in-Ok-clause-run : goal.returns-in-Ok-clause-run
returns-in-Ok-clause-run g c = run-whole _ _ _ _ tt c.in-Ok.ensures

pub returns-in-Err-clause-run : goal.returns-in-Err-clause-run
returns-in-Err-clause-run g c = run-front _ _ _ _ c.in-Err.error _ c.port.ensures c.in-Err.ensures
