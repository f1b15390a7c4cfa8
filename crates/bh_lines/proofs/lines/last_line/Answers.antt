use Rattle.std.proofs.lemmas.Result.{err_from_is_err_and}
use Rattle.bh_lines.proofs.Taking.{last-ok, last-err}
use Rattle.bh_lines.proofs.lines.last_line.Goals as goal

pub returns : goal.returns
returns c = last-ok _ _ _ c.decode_eof.new.self _ c.new_with_max_length-codec.ensures c.requires c.in_ok-decode_eof.ensures

pub returns-in_err-decode_eof : goal.returns-in_err-decode_eof
returns-in_err-decode_eof c =
    let p = err_from_is_err_and c.from_residual.result c.from_residual.ensures.1 in
    rw p.1 (last-err _ _ c.in_err-decode_eof.field-0.0 p.0 c.decode_eof.new.self _ c.new_with_max_length-codec.ensures c.requires p.2.0 p.2.1 c.in_err-decode_eof.ensures)
