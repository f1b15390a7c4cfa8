use Rattle.std.proofs.Common.{arith}
use Rattle.bh_lines.proofs.AsciiLines.{ascii_end-is}
use Rattle.bh_lines.proofs.ascii.ascii_end.Goals as goal

pub returns : goal.returns
returns c = ascii_end-is c.args.bytes.now c.in_ok-mark.mark c.in_ok-mark.ensures.value (omega arith) (omega arith) (omega arith)
