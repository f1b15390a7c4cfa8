use Rattle.std.proofs.Common.{◌∙◌}
use Rattle.std.proofs.lemmas.Result.{err_from_is_err_and}
use Rattle.bh_lines.proofs.PortErrors.{unless-ok}
use Rattle.bh_desk.proofs.Holding.{holds-line, holds-moved, holds-broken, holds-cut}
use Rattle.bh_desk.proofs.session.answer_lines.Goals as goal

pub loop-asked-preserved : goal.loop-asked-preserved
loop-asked-preserved g c =
    let inv = c.loop-asked.invariant in
    let line = c.in_ok-answer_line.ensures in
    let many = c.in_ok-write_many.ensures in record {
      same_writer = many.same_writer ∙ line.same_writer ∙ inv.same_writer;
      none_refused = many.none_refused ∙ unless-ok _ _ line.not_refused ∙ inv.none_refused;
      holds = holds-moved _ _ _ _ _ _ _ _ _ _
          (holds-line _ _ _ _ _ _ _ _ _ _ _ _ _ _ inv.holds c.in-Some.is c.in_ok-asked.ensures.taken line.outcome) many.ok;
    }

pub returns-in_err-answer_line-clause-outcome : goal.returns-in_err-answer_line-clause-outcome
returns-in_err-answer_line-clause-outcome g c =
    let inv = c.loop-asked.invariant in
    let p = err_from_is_err_and c.from_residual-in_err-answer_line.result c.from_residual-in_err-answer_line.ensures.1 in
    rw (p.1, p.2) (holds-broken _ _ _ _ _ _ _ _ _ _ c.in-Some.asked _ _ _ inv.holds c.in_err-answer_line.ensures.outcome)

pub returns-in_err-write_many-clause-outcome : goal.returns-in_err-write_many-clause-outcome
returns-in_err-write_many-clause-outcome g c =
    let inv = c.loop-asked.invariant in
    let p = err_from_is_err_and c.from_residual-in_err-write_many.result c.from_residual-in_err-write_many.ensures.1 in
    let e = c.in_err-write_many.ensures in
    rw (p.1, p.2) (holds-cut _ _ _ _ _ _ _ _ _ _ _ _
    (holds-line _ _ _ _ _ _ _ _ _ _ _ _ _ _ inv.holds c.in-Some.is c.in_ok-asked.ensures.taken c.in_ok-answer_line.ensures.outcome) e.front e.err.0)
