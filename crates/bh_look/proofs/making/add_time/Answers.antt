use Rattle.std.proofs.Common.{refl, arith}
use Rattle.bh_look.proofs.Adding.{same_tally}
use Rattle.bh_look.proofs.making.add_time.Goals as goal

pub returns : goal.returns
returns c = λ k lane at. same_tally c.args.lanes.now c.args.place k c.index-lanes-place.result _ lane (omega (arith, c.if-place-lanes.false)) refl at
