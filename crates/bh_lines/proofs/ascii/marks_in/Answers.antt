use Rattle.bh_lines.proofs.AsciiLines.{marks_found}
use Rattle.bh_lines.proofs.ascii.marks_in.Goals as goal

pub returns : goal.returns
returns c = marks_found c.args.bytes c.fits-bytes.0 c.fits-bytes.1
