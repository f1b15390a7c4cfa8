use Rattle.std.proofs.Common.{rules}
use Rattle.std.proofs.lemmas.Result.{err_from_is_err_and}
use Rattle.bh_lines.proofs.Taking.{takes-ok, takes-err}
use Rattle.bh_lines.proofs.lines.next_line.Goals as goal

pub returns : goal.returns
returns c = takes-ok _ _ _ c.decode.new.self _ c.new_with_max_length-codec.ensures (search rules) c.in_ok-decode.ensures.next

pub returns-in_err-decode : goal.returns-in_err-decode
returns-in_err-decode c =
    let p = err_from_is_err_and c.from_residual.result c.from_residual.ensures.1 in
    rw p.1 (takes-err _ _ c.in_err-decode.field-0.0 p.0 c.decode.new.self _ c.new_with_max_length-codec.ensures p.2.0 p.2.1 c.in_err-decode.ensures.next)
