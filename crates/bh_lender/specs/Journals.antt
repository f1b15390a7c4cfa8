-- What a step does to the journals of all groups.
use Rattle.std.specs.Prelude.{Bool, true, false, List, Option, None, Some, slice_get, slice_set, if◌then◌else◌}
use Rattle.bh_base.specs.declared.reply.Reply.{Reply}
use Rattle.bh_base.specs.declared.step.Step.{Step}
use Rattle.bh_base.specs.Replies.{is_refusal}
use Rattle.bh_journal.specs.Replay.{JournalView, written}

-- the step with its reply stands at the end of the journal of its group, if that is one
abbrev pub written_in : Step → Reply → List JournalView → Option JournalView → List JournalView
written_in step reply journals None = journals
written_in step reply journals (Some j) = slice_set journals step.group.0 (written j step reply)

-- where journals are kept, a step that was no refusal stands with its reply at the end of the journal of its group; nothing
-- else changes
abbrev pub journals_with : Bool → Step → Reply → List JournalView → List JournalView
journals_with false step reply journals = journals
journals_with true step reply journals =
    if is_refusal reply then journals else written_in step reply journals (slice_get journals step.group.0)
