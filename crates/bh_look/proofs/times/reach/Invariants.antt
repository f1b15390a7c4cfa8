use Rattle.std.proofs.Common.{◌≡◌, ◌≤◌, max, length}
use Rattle.bh_look.specs.Inside.{IsPadded}
use Rattle.bh_look.proofs.times.reach.Given as goal

abbrev pub invariant-loop : goal.invariant-loop
invariant-loop l = record {
  padded : IsPadded l.initial.numbers.items l.numbers.items;
  long : length l.numbers.items ≡ l.counter;
  few : l.counter ≤ max l.count (length l.initial.numbers.items);
}
