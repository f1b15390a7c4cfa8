use Rattle.std.proofs.Common.{ap, ◌∙◌}
use Rattle.bh_c.specs.Names.{or_no_command}
use Rattle.bh_c.proofs.Texts.{command-none, command-text}
use Rattle.bh_c.proofs.service.Service.command_number.Goals as goal

pub returns-in_default : goal.returns-in_default
returns-in_default c = command-none _ _ _ _ c.in_default.ensures.cases.0

pub returns-in-Some : goal.returns-in-Some
returns-in-Some c = ap or_no_command c.in-Some.ensures ∙ command-text _ _ _ _ _ c.in-Ok.ensures.cases

pub returns-in-None : goal.returns-in-None
returns-in-None c = ap or_no_command c.in-None.ensures ∙ command-text _ _ _ _ _ c.in-Ok.ensures.cases
