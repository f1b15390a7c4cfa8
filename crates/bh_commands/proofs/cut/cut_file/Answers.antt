use Rattle.bh_commands.proofs.CutStatus.{settings-alike}
use Rattle.bh_commands.proofs.cut.cut_file.Goals as goal

pub returns-in-Ok-clause-alike : goal.returns-in-Ok-clause-alike
returns-in-Ok-clause-alike g c = settings-alike _ _

pub returns-in-Err-clause-alike : goal.returns-in-Err-clause-alike
returns-in-Err-clause-alike g c = settings-alike _ _
