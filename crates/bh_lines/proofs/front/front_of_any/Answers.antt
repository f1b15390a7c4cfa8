use Rattle.std.proofs.Common.{arith}
use Rattle.bh_lines.proofs.Fronting.{front-found, front-invalid, front-far, front-missing}
use Rattle.bh_lines.proofs.front.front_of_any.Goals as goal

pub returns-in_err-end : goal.returns-in_err-end
returns-in_err-end c = rw c.from_residual.ensures (front-missing _ c.in_err-end.ensures)

pub returns-then-end-gt-LINE_LIMIT : goal.returns-then-end-gt-LINE_LIMIT
returns-then-end-gt-LINE_LIMIT c = front-far _ c.in_ok-end.end c.in_ok-end.ensures (omega arith)

pub returns-in_err-text : goal.returns-in_err-text
returns-in_err-text c = rw c.from_residual-in_err-text.ensures (front-invalid _ c.in_ok-end.end c.in_ok-end.ensures (omega arith) c.in_err-text.ensures)

pub returns : goal.returns
returns c = let e = c.in_ok-text.ensures in front-found _ c.in_ok-end.end c.in_ok-text.text c.in_ok-end.ensures (omega arith) e.0 e.1
