use Rattle.std.proofs.Common.{◌≡◌, ◌≤◌, false, []}
use Rattle.bh_lines.specs.Lines.{has_line}
use Rattle.bh_streams.specs.Watched.{saturating_count, reader_of, reads_of, bytes_left, NoneFailed, writer_of, bytes_held, NoneRefused}
use Rattle.bh_control.specs.AnswerLine.{responder}
use Rattle.bh_control.proofs.Progress.{Progress}
use Rattle.bh_control.proofs.session.converse_in.Given as goal

abbrev pub invariant-loop : goal.invariant-loop
invariant-loop g l = record {
  same_reader : (reader_of l.reader).ghost_name ≡ (reader_of l.fn.reader).ghost_name;
  same_writer : (writer_of l.writer).ghost_name ≡ (writer_of l.fn.writer).ghost_name;
  names : g.C.Control.names l.control ≡ g.C.Control.names l.fn.control;
  none_held : l.answers.items ≡ [];
  no_line : has_line l.received ≡ false;
  read_enough : saturating_count (reads_of l.fn.reader) l.counter ≤ reads_of l.reader;
  none_failed : NoneFailed l.fn.reader l.reader;
  none_refused : NoneRefused l.fn.writer l.writer;
  progress : Progress (bytes_left g.R.Read.remaining l.fn.reader) (bytes_left g.R.Read.remaining l.reader)
      (responder (g.C.Control.names l.fn.control) g.C.Control.may_show g.C.Control.may_answer g.C.Control.may_close g.C.Control.may_total g.C.Control.may_tune g.C.Control.may_force)
      (bytes_held g.W.Write.contents l.fn.writer) (bytes_held g.W.Write.contents l.writer) l.received;
}
