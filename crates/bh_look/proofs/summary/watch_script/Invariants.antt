use Rattle.std.proofs.Common.{◌+◌, ◌≤◌, length, ◌≡◌}
use Rattle.bh_props.specs.Shown.{settings_view}
use Rattle.bh_streams.specs.Watched.{saturating_count, reader_of, reads_of, bytes_left, NoneFailed}
use Rattle.bh_port.specs.Course.{Course}
use Rattle.bh_look.specs.Watched.{IsWatched}
use Rattle.bh_look.proofs.Reading.{Progress}
use Rattle.bh_look.proofs.summary.watch_script.Given as goal

abbrev pub invariant-loop : goal.invariant-loop
invariant-loop g l = record {
  same_reader : (reader_of l.reader).ghost_name ≡ (reader_of l.fn.reader).ghost_name;
  read_enough : saturating_count (reads_of l.fn.reader) l.counter ≤ reads_of l.reader;
  read_no_more : reads_of l.reader ≤ reads_of l.fn.reader + l.counter;
  none_failed : NoneFailed l.fn.reader l.reader;
  piece : length l.piece ≡ 65536;
  progress : (before : Course) → IsWatched (settings_view l.settings) l.fn.watch.groups l.fn.watch.lanes.items before
      → Progress (settings_view l.settings) before (bytes_left g.R.Read.remaining l.fn.reader) (bytes_left g.R.Read.remaining l.reader) l.watch.groups l.fn.watch.lanes.items l.watch.lanes.items l.buffer.items;
}
