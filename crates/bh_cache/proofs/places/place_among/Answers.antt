use Rattle.std.proofs.Common.{◌-◌, ap}
use Rattle.std.specs.Prelude.{bit_and}
use Rattle.bh_cache.specs.Places.{place_among}
use Rattle.bh_cache.proofs.places.place_among.Goals as goal

pub returns : goal.returns
unfolding place_among
returns c = ap (λ h. bit_and h (c.args.count - 1)) c.place_of_name.ensures
