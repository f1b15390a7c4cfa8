use Rattle.bh_lint.proofs.InBytes.{reports-text, reports-no_text}
use Rattle.bh_lint.proofs.report.lint.Goals as goal

pub returns-in-Ok-clause-told : goal.returns-in-Ok-clause-told
returns-in-Ok-clause-told c = reports-text _ _ _ c.in-Ok.ensures.cases c.report_text.ensures

pub returns-in-Err-clause-told : goal.returns-in-Err-clause-told
returns-in-Err-clause-told c = reports-no_text _ _ c.in-Err.ensures.cases.0 c.refused_at.ensures
