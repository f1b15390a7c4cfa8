use Rattle.bh_lines.proofs.PlainLanes.{stops_found}
use Rattle.bh_lines.proofs.stops.stops_in.Goals as goal

pub returns : goal.returns
returns c = stops_found c.args.bytes c.fits-bytes.0 c.fits-bytes.1
