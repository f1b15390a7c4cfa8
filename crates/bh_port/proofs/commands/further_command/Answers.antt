use Rattle.std.proofs.Common.{◌∙◌}
use Rattle.bh_port.proofs.Finding.{lookup-key}
use Rattle.bh_port.proofs.commands.further_command.Goals as goal

pub returns-in-Ok : goal.returns-in-Ok
returns-in-Ok c = c.copied.ensures ∙ c.get.ensures.value ∙ lookup-key _ _ _ c.in-Ok.ensures.ok
