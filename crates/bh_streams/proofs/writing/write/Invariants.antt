use Rattle.std.proofs.Common.{◌≡◌, ◌≤◌, ◌-◌, length, take}
use Rattle.std.specs.Io.KnownBytes.{Appends}
use Rattle.bh_streams.specs.Watched.{writer_of, bytes_held, NoneRefused}
use Rattle.bh_streams.proofs.writing.write.Given as goal

abbrev pub invariant-loop-at : goal.invariant-loop-at
invariant-loop-at g l = record {
  within : l.at ≤ length l.bytes;
  same_writer : (writer_of l.writer).ghost_name ≡ (writer_of l.fn.writer).ghost_name;
  none_refused : NoneRefused l.fn.writer l.writer;
  wrote : Appends (bytes_held g.W.Write.contents l.fn.writer) (bytes_held g.W.Write.contents l.writer) (take l.at l.bytes);
}

abbrev pub decreases-loop-at : goal.decreases-loop-at
decreases-loop-at g l = length l.bytes - l.at
