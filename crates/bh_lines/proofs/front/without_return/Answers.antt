use Rattle.std.proofs.Common.{sym, ◌∙◌}
use Rattle.bh_lines.proofs.Fronting.{return-stripped, return-missing}
use Rattle.bh_lines.proofs.front.without_return.Goals as goal

pub returns-in-Some : goal.returns-in-Some
returns-in-Some c = let e = c.in-Some.ensures.cases in e.1 ∙ sym (return-stripped _ e.0)

pub returns-in-None : goal.returns-in-None
returns-in-None c = let e = c.in-None.ensures.cases in sym (return-missing _ e)
