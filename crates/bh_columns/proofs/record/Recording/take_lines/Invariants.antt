use Rattle.std.proofs.Common.{length}
use Rattle.bh_props.specs.Shown.{settings_view}
use Rattle.bh_columns.specs.Named.{KeptRun}
use Rattle.bh_columns.specs.Recorded.{IsRecorded, RecordedUpTo}
use Rattle.bh_columns.specs.declared.selection.Selection.{Selection}
use Rattle.bh_columns.proofs.record.Recording.take_lines.Given as goal

abbrev pub invariant-loop : goal.invariant-loop
invariant-loop l =
    (sel : Selection) (run : KeptRun) → IsRecorded (settings_view l.settings) sel l.fn.self.groups l.fn.self.kept run
    → RecordedUpTo (settings_view l.settings) sel run l.self.groups l.self.kept l.fn.buffer.items l.buffer.items

abbrev pub decreases-loop : goal.decreases-loop
decreases-loop l = length l.buffer.items
