-- All groups, with an account and a log of the steps that are made in them.
use Rattle.std.specs.Prelude.{◌≡◌, Bool, List, Option, option_map, unwrap_or}
use Rattle.bh_base.specs.declared.reply.Reply.{Reply}
use Rattle.bh_base.specs.declared.step.Step.{Step}
use Rattle.bh_core.specs.CoreView.{CoreView}
use Rattle.bh_core.specs.Step.{IsStep}
use Rattle.bh_journal.specs.Replay.{JournalView}
use Rattle.bh_audit.specs.Books.{BookView}
use Rattle.bh_lender.specs.Journals.{journals_with}
use Rattle.bh_lender.specs.StepLog.{StepLogView, logged}

-- all groups, the log, where one is kept, the journals by group number, and whether these are kept
pub record RecordedView : Type 0 where
  pub groups : CoreView
  pub log : Option StepLogView
  pub journals : List JournalView
  pub audited : Bool

-- the groups and the account of a book, with a log or without one
abbrev pub recorded_of : BookView → Option StepLogView → RecordedView
recorded_of book log = record { groups = book.groups; log = log; journals = book.journals; audited = book.audited }

-- the book of these groups and this account
abbrev pub book_of : RecordedView → BookView
book_of r = record { groups = r.groups; journals = r.journals; audited = r.audited }

-- the step was made, with this reply, was put into the log, and stands in the account
abbrev pub IsMade : RecordedView → Step → Reply → RecordedView → Type 0
IsMade old step reply new =
    IsStep old.groups step reply new.groups
    × (new.log ≡ option_map (logged step) old.log)
    × (new.journals ≡ journals_with old.audited step reply old.journals)
    × (new.audited ≡ old.audited)

-- with the steps and the room of another log in place of those of its own; what it lost stays known
abbrev pub with_log_of : StepLogView → RecordedView → RecordedView
with_log_of other r = record r { log = option_map (λ (l : StepLogView). record other { lost = l.lost }) r.log }

-- what the other log is then: the one that was kept, if one was
abbrev pub log_or : StepLogView → RecordedView → StepLogView
log_or other r = unwrap_or r.log other
