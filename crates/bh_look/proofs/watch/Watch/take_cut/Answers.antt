use Rattle.std.proofs.Common.{rules}
use Rattle.std.proofs.lemmas.Result.{err_from_is_err_and}
use Rattle.bh_port.proofs.Answering.{cut-shorter, none-left, refused-kind}
use Rattle.bh_look.proofs.Taking.{cut-taken, none-taken, refused-next}
use Rattle.bh_look.proofs.watch.Watch.take_cut.Goals as goal

pub returns-in_default-clause-taken : goal.returns-in_default-clause-taken
returns-in_default-clause-taken c = none-taken _ _ _ _ _ _ (search rules) c.in_ok-line.ensures

pub returns-in_default-clause-none_left : goal.returns-in_default-clause-none_left
returns-in_default-clause-none_left c = λ _. none-left c.args.buffer.now.items c.next_line.new.buffer.items _ (search rules) c.in_ok-line.ensures

pub returns-in_err-line-clause-kinds : goal.returns-in_err-line-clause-kinds
returns-in_err-line-clause-kinds c =
    let p = err_from_is_err_and c.from_residual.result c.from_residual.ensures.1 in
    rw (p.1, p.2) (refused-kind _ _ _ c.in_err-line.ensures)

pub returns-in_err-line-clause-stopped : goal.returns-in_err-line-clause-stopped
returns-in_err-line-clause-stopped c =
    let p = err_from_is_err_and c.from_residual.result c.from_residual.ensures.1 in
    rw (p.1, p.2) (λ before more watched. refused-next _ before _ _ _ more _ c.in_err-line.ensures)

pub returns-in_err-take_line-clause-stopped : goal.returns-in_err-take_line-clause-stopped
returns-in_err-take_line-clause-stopped c =
    let p = err_from_is_err_and c.from_residual-in_err-take_line.result c.from_residual-in_err-take_line.ensures.1 in
    rw (p.1, p.2) (λ before more watched. tt)

pub returns-clause-taken : goal.returns-clause-taken
returns-clause-taken c = cut-taken _ _ _ _ _ _ _ _ _ _ c.in-Some.is c.in_ok-line.ensures c.as_str.ensures.value c.in_ok-take_line.ensures

pub returns-clause-shorter : goal.returns-clause-shorter
returns-clause-shorter c = λ _. cut-shorter c.args.buffer.now.items c.next_line.new.buffer.items _ _ c.in-Some.is c.in_ok-line.ensures
