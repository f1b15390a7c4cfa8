use Rattle.std.proofs.Common.{◌≡◌, ◌+◌, length}
use Rattle.bh_columns.specs.Tracks.{SameColumns}
use Rattle.bh_columns.proofs.track.Track.follow.Given as goal

abbrev pub invariant-loop : goal.invariant-loop
invariant-loop l = record {
  same : SameColumns l.fn.self l.self;
  first : l.self.first ≡ l.fn.self.first;
  room : length l.self.columns.items + l.end ≡ length l.fn.self.columns.items + l.counter;
}
