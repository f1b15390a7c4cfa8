-- The bars so far are counted.
use Rattle.std.proofs.Common.{◌≡◌, take}
use Rattle.bh_draw.specs.Lengths.{bars_count}
use Rattle.bh_draw.proofs.bar.count_of.Given as goal

abbrev pub invariant-loop-bar : goal.invariant-loop-bar
invariant-loop-bar l = l.count ≡ bars_count (take l.bar-index l.bars) l.tally
