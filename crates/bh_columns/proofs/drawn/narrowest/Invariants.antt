use Rattle.std.proofs.Common.{◌≡◌, ◌*◌, ◌^◌, ◌<◌, ℕ}
use Rattle.bh_columns.specs.Charts.{IsStep, count_in}
use Rattle.bh_columns.proofs.drawn.narrowest.Given as goal

abbrev pub invariant-loop : goal.invariant-loop
invariant-loop l = record {
  power : l.power ≡ 10 ^ l.counter;
  before : (q times : ℕ) → q < l.counter → IsStep times → l.columns < count_in (l.least, l.greatest) (times * 10 ^ q);
}
