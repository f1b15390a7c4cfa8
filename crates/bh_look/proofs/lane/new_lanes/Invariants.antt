use Rattle.std.proofs.Common.{◌≡◌, [], All, length}
use Rattle.bh_look.specs.Tallies.{no_tally}
use Rattle.bh_look.specs.Times.{AreTimes}
use Rattle.bh_look.proofs.lane.new_lanes.Given as goal

abbrev pub invariant-loop : goal.invariant-loop
invariant-loop l = record {
  count : length l.lanes.items ≡ l.counter;
  none : All (λ lane. lane.tally ≡ no_tally) l.lanes.items;
  times : All (λ lane. AreTimes [] lane.times) l.lanes.items;
}
