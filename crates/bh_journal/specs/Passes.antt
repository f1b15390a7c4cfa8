-- What callers see of a pass, and what a step adds to it.
use Rattle.std.specs.Prelude.{◌≡◌, ℕ, ◌-◌, Bool, true, false, List, [], ◌∷◌, ◌++◌}
use Rattle.bh_base.specs.declared.step.GroupId.{GroupId}
use Rattle.bh_base.specs.declared.step.Step.{Step}
use Rattle.bh_base.specs.declared.reply.Reply.{Reply}
use Rattle.bh_base.specs.declared.reply.Reply.TheVariants as reply
use Rattle.bh_journal.specs.declared.pass.Receipt.{Receipt}
use Rattle.bh_journal.specs.declared.pass.Marks.{Marks}

-- a pass: whose it is, its receipts in order, how many more there is room for, and its marks
pub record PassView : Type 0 where
  pub group : GroupId
  pub receipts : List Receipt
  pub room : ℕ
  pub marks : Marks

abbrev pub no_marks : Marks
no_marks = record { worn = false; no_group = false; stopped = false }

-- a pass that nothing was added to
abbrev pub blank : GroupId → ℕ → PassView
blank group room = record { group = group; receipts = []; room = room; marks = no_marks }

-- one more receipt, in one place of the room
abbrev pub added : PassView → Receipt → PassView
added p receipt = record p { receipts = p.receipts ++ receipt ∷ []; room = p.room - 1 }

abbrev pub marked_worn : PassView → PassView
marked_worn p = record p { marks = record p.marks { worn = true } }

abbrev pub marked_no_group : PassView → PassView
marked_no_group p = record p { marks = record p.marks { no_group = true } }

abbrev pub marked_stopped : PassView → PassView
marked_stopped p = record p { marks = record p.marks { stopped = true } }

abbrev pub receipt_of : ℕ → Step → Reply → Receipt
receipt_of place step reply = record { place = place; step = step; reply = reply }

-- an audited service adds the receipt of the step and its reply, at some place; another adds none
abbrev pub AddsReceipt : Bool → PassView → Step → Reply → PassView → Type 0
AddsReceipt true p step reply p' = (place : ℕ) × (p' ≡ added p (receipt_of place step reply))
AddsReceipt false p step reply p' = p' ≡ p

-- what a step with its reply adds to a pass: a refusal sets its own mark alone, that for a missing command none, and any
-- other reply adds its receipt
abbrev pub Adds : Bool → PassView → Step → Reply → PassView → Type 0
Adds audited p step reply.Worn p' = p' ≡ marked_worn p
Adds audited p step reply.NoGroup p' = p' ≡ marked_no_group p
Adds audited p step reply.NoCommand p' = p' ≡ p
Adds audited p step r p' = AddsReceipt audited p step r p'
