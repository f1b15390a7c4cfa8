-- The account of steps that were made: the journals of all groups.
use Rattle.std.specs.Prelude.{◌≡◌, ◌<◌, ◌==◌, ◌&&◌, ℕ, Bool, true, false, not, List, ◌++◌, filter, length, Option, option_map, slice_get}
use Rattle.std.specs.List.{AllByRecursion}
use Rattle.bh_base.specs.Replies.{is_refusal}
use Rattle.bh_journal.specs.Replay.{JournalView}
use Rattle.bh_audit.specs.Books.{IsAudited}
use Rattle.bh_lender.specs.Recorded.{RecordedView}
use Rattle.bh_lender.specs.Steps.{Made}

-- what stands in the journal of the group, if there is one
abbrev pub entries_at : ℕ → List JournalView → Option (List Made)
entries_at group journals = option_map (λ (j : JournalView). j.entries) (slice_get journals group)

-- whether the step is one of the group's, and was no refusal
abbrev pub is_entry : ℕ → Made → Bool
is_entry group m = (m.0.group.0 == group) && not (is_refusal m.1)

-- those of the steps that are the group's and were no refusal, with their replies, in their order
abbrev pub entries_of : ℕ → List Made → List Made
entries_of group made = filter (is_entry group) made

-- the steps that took the groups from old to new are in the account
pub record AreEntered (old : RecordedView) (made : List Made) (new : RecordedView) : Type 0 where
  -- behind what it had, the journal of each group has those of the steps that are its own, and nothing else
  pub entered : (group : ℕ) → entries_at group new.journals ≡ option_map (λ (had : List Made). had ++ entries_of group made) (entries_at group old.journals)
  -- each step that was no refusal is one of a group that has a journal
  pub kept : AllByRecursion (λ (m : Made). is_refusal m.1 ≡ false → m.0.group.0 < length old.journals) made
  -- each journal is still a run of its group's machine, and agrees with what the group shows
  pub agree : IsAudited new.groups new.journals
  pub audited : new.audited ≡ true
