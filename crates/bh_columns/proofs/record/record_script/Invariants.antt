use Rattle.std.proofs.Common.{◌+◌, ◌≤◌, length, ◌≡◌}
use Rattle.bh_props.specs.Shown.{settings_view}
use Rattle.bh_streams.specs.Watched.{saturating_count, reader_of, reads_of, bytes_left, NoneFailed}
use Rattle.bh_columns.specs.Named.{KeptRun}
use Rattle.bh_columns.specs.Recorded.{IsRecorded}
use Rattle.bh_columns.specs.declared.selection.Selection.{Selection}
use Rattle.bh_columns.proofs.Reading.{Progress}
use Rattle.bh_columns.proofs.record.record_script.Given as goal

abbrev pub invariant-loop : goal.invariant-loop
invariant-loop g l = record {
  same_reader : (reader_of l.reader).ghost_name ≡ (reader_of l.fn.reader).ghost_name;
  read_enough : saturating_count (reads_of l.fn.reader) l.counter ≤ reads_of l.reader;
  read_no_more : reads_of l.reader ≤ reads_of l.fn.reader + l.counter;
  none_failed : NoneFailed l.fn.reader l.reader;
  piece : length l.piece ≡ 65536;
  progress : (sel : Selection) (run : KeptRun) → IsRecorded (settings_view l.settings) sel l.fn.recording.groups l.fn.recording.kept run
      → Progress (settings_view l.settings) sel run (bytes_left g.R.Read.remaining l.fn.reader) (bytes_left g.R.Read.remaining l.reader) l.recording.groups l.recording.kept l.buffer.items;
}
