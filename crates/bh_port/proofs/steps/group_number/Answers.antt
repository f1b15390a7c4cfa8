use Rattle.std.proofs.Common.{◌∙◌}
use Rattle.bh_lines.proofs.GroupNumber.{position-key}
use Rattle.bh_port.proofs.steps.group_number.Goals as goal

pub returns-clause-number : goal.returns-clause-number
returns-clause-number c = c.in_ok-number.ensures.index ∙ position-key _ _ _ c.in-Ok.ensures.ok

pub returns-in_err-number-clause-number : goal.returns-in_err-number-clause-number
returns-in_err-number-clause-number c = rw c.from_residual.ensures (c.in_err-number.ensures.index ∙ position-key _ _ _ c.in-Ok.ensures.ok)
