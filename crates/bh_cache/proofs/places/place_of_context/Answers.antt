use Rattle.std.proofs.Common.{◌-◌, ap}
use Rattle.std.specs.Prelude.{bit_and}
use Rattle.bh_cache.specs.Places.{home_of, place_of_context}
use Rattle.bh_cache.proofs.places.place_of_context.Goals as goal

pub returns : goal.returns
unfolding place_of_context home_of
returns c = ap (λ h. bit_and h (c.args.count - 1)) c.upper_half.ensures.half
