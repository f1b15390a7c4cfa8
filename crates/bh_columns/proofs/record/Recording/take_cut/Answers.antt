use Rattle.std.proofs.Common.{rules}
use Rattle.std.proofs.lemmas.Result.{err_from_is_err_and}
use Rattle.bh_port.proofs.Answering.{cut-shorter, none-left, refused-kind}
use Rattle.bh_columns.proofs.Taking.{cut_taken, none_taken, refused_next}
use Rattle.bh_columns.proofs.record.Recording.take_cut.Goals as goal

pub returns-in_default-clause-taken : goal.returns-in_default-clause-taken
returns-in_default-clause-taken c = λ sel run recorded. none_taken _ sel _ _ _ _ _ (search rules) c.in_ok-line.ensures run recorded

pub returns-in_default-clause-none_left : goal.returns-in_default-clause-none_left
returns-in_default-clause-none_left c = λ _. none-left c.args.buffer.now.items c.next_line.new.buffer.items _ (search rules) c.in_ok-line.ensures

pub returns-in_err-line-clause-kinds : goal.returns-in_err-line-clause-kinds
returns-in_err-line-clause-kinds c =
    let p = err_from_is_err_and c.from_residual.result c.from_residual.ensures.1 in
    rw (p.1, p.2) (refused-kind _ _ _ c.in_err-line.ensures)

pub returns-in_err-line-clause-stopped : goal.returns-in_err-line-clause-stopped
returns-in_err-line-clause-stopped c =
    let p = err_from_is_err_and c.from_residual.result c.from_residual.ensures.1 in
    rw (p.1, p.2) (λ sel run more recorded. refused_next _ sel _ _ run _ _ more _ c.in_err-line.ensures recorded)

pub returns-in_err-take_line-clause-stopped : goal.returns-in_err-take_line-clause-stopped
returns-in_err-take_line-clause-stopped c =
    let p = err_from_is_err_and c.from_residual-in_err-take_line.result c.from_residual-in_err-take_line.ensures.1 in
    rw (p.1, p.2) (λ sel run more recorded. tt)

pub returns-clause-taken : goal.returns-clause-taken
returns-clause-taken c = λ sel run recorded. cut_taken _ sel _ _ _ _ _ _ _ _ _ c.in-Some.is c.in_ok-line.ensures c.as_str.ensures.value (λ later was. c.in_ok-take_line.ensures sel later was) run recorded

pub returns-clause-shorter : goal.returns-clause-shorter
returns-clause-shorter c = λ _. cut-shorter c.args.buffer.now.items c.next_line.new.buffer.items _ _ c.in-Some.is c.in_ok-line.ensures
