use Rattle.std.proofs.Common.{◌∙◌}
use Rattle.bh_lines.proofs.Fronting.{text-valid, text-invalid}
use Rattle.bh_lines.proofs.front.line_text.Goals as goal

pub returns-in-Ok : goal.returns-in-Ok
returns-in-Ok c = let e = c.in-Ok.ensures.cases in (e.0 ∙ c.without_return.ensures, text-valid _ _ c.without_return.ensures e.1)

pub returns-in-Err : goal.returns-in-Err
returns-in-Err c = text-invalid _ _ c.without_return.ensures c.in-Err.ensures.cases.0
