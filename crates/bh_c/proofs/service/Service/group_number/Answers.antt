use Rattle.std.proofs.Common.{ap, ◌∙◌}
use Rattle.bh_c.specs.Names.{or_no_group}
use Rattle.bh_c.proofs.Texts.{group-none, group-text}
use Rattle.bh_c.proofs.service.Service.group_number.Goals as goal

pub returns-in_default : goal.returns-in_default
returns-in_default c = group-none _ _ c.in_default.ensures.cases.0

pub returns-in-Some : goal.returns-in-Some
returns-in-Some c = ap or_no_group c.in-Some.ensures.number ∙ group-text _ _ _ c.in-Ok.ensures.cases

pub returns-in-None : goal.returns-in-None
returns-in-None c = ap or_no_group c.in-None.ensures.number ∙ group-text _ _ _ c.in-Ok.ensures.cases
