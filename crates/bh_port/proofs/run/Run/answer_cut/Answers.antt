use Rattle.std.proofs.Common.{rules}
use Rattle.std.proofs.lemmas.Result.{err_from_is_err_and}
use Rattle.bh_port.proofs.Answering.{cut-answered, cut-shorter, none-left, none-answered, refused-next, refused-kind, last-unanswered}
use Rattle.bh_port.proofs.run.Run.answer_cut.Goals as goal

pub returns-in_default-clause-answered : goal.returns-in_default-clause-answered
returns-in_default-clause-answered c = none-answered _ _ _ _ _ _ (search rules) c.in_ok-line.ensures

pub returns-in_default-clause-none_left : goal.returns-in_default-clause-none_left
returns-in_default-clause-none_left c = λ _. none-left c.args.buffer.now.items c.next_line.new.buffer.items _ (search rules) c.in_ok-line.ensures

pub returns-in_err-line-clause-kinds : goal.returns-in_err-line-clause-kinds
returns-in_err-line-clause-kinds c =
    let p = err_from_is_err_and c.from_residual.result c.from_residual.ensures.1 in
    rw (p.1, p.2) (refused-kind _ _ _ c.in_err-line.ensures)

pub returns-in_err-line-clause-stopped : goal.returns-in_err-line-clause-stopped
returns-in_err-line-clause-stopped c =
    let p = err_from_is_err_and c.from_residual.result c.from_residual.ensures.1 in
    rw (p.1, p.2) (λ before more agrees. refused-next _ _ before _ _ more _ c.in_err-line.ensures)

pub returns-in_err-answer_line-clause-stopped : goal.returns-in_err-answer_line-clause-stopped
returns-in_err-answer_line-clause-stopped c =
    let p = err_from_is_err_and c.from_residual-in_err-answer_line.result c.from_residual-in_err-answer_line.ensures.1 in
    rw (p.1, p.2) (λ before more agrees. last-unanswered _ _ _ before _ c.in_err-answer_line.ensures.kept)

pub returns-clause-answered : goal.returns-clause-answered
returns-clause-answered c = cut-answered _ _ _ _ _ _ _ _ _ _ c.in-Some.is c.in_ok-line.ensures c.as_str.ensures.value c.in_ok-answer_line.ensures.answers

pub returns-clause-shorter : goal.returns-clause-shorter
returns-clause-shorter c = λ _. cut-shorter c.args.buffer.now.items c.next_line.new.buffer.items _ _ c.in-Some.is c.in_ok-line.ensures
