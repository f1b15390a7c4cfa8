use Rattle.std.proofs.Common.{◌+◌, ◌≤◌, length, ◌≡◌}
use Rattle.bh_props.specs.Shown.{settings_view}
use Rattle.bh_streams.specs.Watched.{saturating_count, reader_of, reads_of, bytes_left, NoneFailed, writer_of, bytes_held, NoneRefused}
use Rattle.bh_port.specs.CommandPlaces.{AreCommandPlaces}
use Rattle.bh_port.proofs.Running.{Progress}
use Rattle.bh_port.proofs.script.script.Given as goal

abbrev pub invariant-loop : goal.invariant-loop
invariant-loop g l = record {
  same_reader : (reader_of l.reader).ghost_name ≡ (reader_of l.fn.reader).ghost_name;
  same_writer : (writer_of l.writer).ghost_name ≡ (writer_of l.fn.writer).ghost_name;
  read_enough : saturating_count (reads_of l.fn.reader) l.counter ≤ reads_of l.reader;
  read_no_more : reads_of l.reader ≤ reads_of l.fn.reader + l.counter;
  none_failed : NoneFailed l.fn.reader l.reader;
  none_refused : NoneRefused l.fn.writer l.writer;
  piece : length l.piece ≡ 65536;
  places : AreCommandPlaces (settings_view l.settings).commands l.opened.places;
  progress : Progress (bytes_left g.R.Read.remaining l.fn.reader) (bytes_left g.R.Read.remaining l.reader)
      (bytes_held g.W.Write.contents l.fn.writer) (bytes_held g.W.Write.contents l.writer) (settings_view l.settings) l.opened.run.groups l.opened.buffer.items;
}
