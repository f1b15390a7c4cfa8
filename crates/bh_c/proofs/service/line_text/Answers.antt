use Rattle.std.proofs.Common.{arith, ◌∙◌}
use Rattle.bh_c.proofs.Texts.{line-none, line-text, line-within}
use Rattle.bh_c.proofs.service.line_text.Goals as goal

pub returns-in-Ok : goal.returns-in-Ok
returns-in-Ok c = line-text _ _ c.in-Ok.ensures.cases ∙ line-within c.args.line.now (omega (arith, c.if-line-gt-LINE_LIMIT.false))

pub returns-in-Err : goal.returns-in-Err
returns-in-Err c = line-none _ c.in-Err.ensures.cases.0 ∙ line-within c.args.line.now (omega (arith, c.if-line-gt-LINE_LIMIT.false))
