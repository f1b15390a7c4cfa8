-- The bars so far are so high.
use Rattle.std.proofs.Common.{◌≡◌, take}
use Rattle.bh_draw.specs.Lengths.{bars_height}
use Rattle.bh_draw.proofs.bar.height_of.Given as goal

abbrev pub invariant-loop-bar : goal.invariant-loop-bar
invariant-loop-bar l = l.height ≡ bars_height (take l.bar-index l.bars) l.tally l.scale 20
