use Rattle.std.proofs.Common.{rules}
use Rattle.bh_commands.proofs.RunStatus.{run-told}
use Rattle.bh_commands.proofs.run.run_noted.Goals as goal

pub returns-clause-run : goal.returns-clause-run
returns-clause-run g c = run-told _ _ _ _ _ _ _ _ _ (search rules) (search rules) (search rules) c.status_of-status.ensures c.run_lines-ended.ensures
