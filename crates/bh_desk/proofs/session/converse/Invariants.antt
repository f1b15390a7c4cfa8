use Rattle.std.proofs.Common.{◌≡◌, ◌≤◌, false, []}
use Rattle.bh_lines.specs.Lines.{has_line}
use Rattle.bh_streams.specs.Watched.{saturating_count, reader_of, reads_of, bytes_left, NoneFailed, writer_of, bytes_held, NoneRefused}
use Rattle.bh_desk.specs.Answers.{responder}
use Rattle.bh_desk.proofs.Progress.{HasReached, Progress}
use Rattle.bh_desk.proofs.session.converse.Given as goal

abbrev pub invariant-loop : goal.invariant-loop
invariant-loop g l = record {
  same_reader : (reader_of l.reader).ghost_name ≡ (reader_of l.fn.reader).ghost_name;
  same_writer : (writer_of l.writer).ghost_name ≡ (writer_of l.fn.writer).ghost_name;
  none_held : l.answers.items ≡ [];
  no_line : has_line l.received ≡ false;
  read_enough : saturating_count (reads_of l.fn.reader) l.counter ≤ reads_of l.reader;
  none_failed : NoneFailed l.fn.reader l.reader;
  none_refused : NoneRefused l.fn.writer l.writer;
  reached : HasReached (responder (g.N.Directory.names l.directory) g.D.Desk.may) l.fn.desk l.desk;
  progress : Progress (bytes_left g.R.Read.remaining l.fn.reader) (bytes_left g.R.Read.remaining l.reader)
      (responder (g.N.Directory.names l.directory) g.D.Desk.may) l.fn.desk l.desk
      (bytes_held g.W.Write.contents l.fn.writer) (bytes_held g.W.Write.contents l.writer) l.received;
}
