-- When passes agree with the report of a service, and what is the first place at which they do not.
use Rattle.std.specs.Prelude.{◌≡◌, ℕ, ◌+◌, ◌<◌, ◌≤◌, ◌==◌, ◌⊎◌, zero, suc, Bool, false, true, List, [], ◌∷◌, length, map, Option, Some, None, sum_by, count_by, slice_get, slice_index_or, vec_items, if◌then◌else◌}
use Rattle.std.specs.List.{AllByRecursion}
use Rattle.std.specs.Option.{option_map}
use Rattle.bh_base.specs.Props.{GroupProps}
use Rattle.bh_base.specs.declared.step.GroupId.{GroupId}
use Rattle.bh_base.specs.declared.step.Step.{Step}
use Rattle.bh_base.specs.declared.reply.Reply.{Reply}
use Rattle.bh_journal.specs.declared.difference.Difference.{Difference}
use Rattle.bh_journal.specs.declared.difference.Difference.TheVariants.{PassMissing, Mismatch}
use Rattle.bh_journal.specs.declared.pass.Receipt.{Receipt}
use Rattle.bh_journal.specs.declared.pass.Marks.{Marks}
use Rattle.bh_journal.specs.declared.report.AuditReport.{AuditReport}
use Rattle.bh_journal.specs.Passes.{PassView}

-- what a report says of a group

-- the journal of the group; without entries where the report has none of it
abbrev pub journal_of : AuditReport → ℕ → List (Step × Reply)
journal_of report group = slice_index_or (map vec_items report.journals.items) group []

-- the entry at a place, from 1
abbrev pub entry_at : List (Step × Reply) → ℕ → Option (Step × Reply)
entry_at journal zero = None
entry_at journal (suc k) = slice_get journal k

-- how many steps the group may do
abbrev pub limit_of : AuditReport → ℕ → Option ℕ
limit_of report group = option_map (λ (x : GroupProps × ℕ). x.1) (slice_get report.groups.items group)

-- whether the group was retired; false where the report has nothing of it
abbrev pub is_retired : AuditReport → ℕ → Bool
is_retired report group = slice_index_or report.retired.items group false

-- the service lacks the group: it was never registered, or is retired
abbrev pub IsLacking : AuditReport → ℕ → Type 0
IsLacking report group = (length report.journals.items ≤ group) ⊎ (is_retired report group ≡ true)

-- the group has a journal, and it has as many entries as the group may do steps
abbrev pub IsWornOut : AuditReport → ℕ → Type 0
IsWornOut report group =
    (group < length report.journals.items) × (limit_of report group ≡ Some (length (journal_of report group)))

-- each mark of a pass of the group is set only where it is so
pub record AreTrue (report : AuditReport) (group : ℕ) (marks : Marks) : Type 0 where
  pub worn : marks.worn ≡ true → IsWornOut report group
  pub no_group : marks.no_group ≡ true → IsLacking report group
  pub stopped : marks.stopped ≡ true → report.stopped ≡ true

-- receipts

-- each receipt behind the place of the one before it in its pass; the first behind the place that is given
abbrev pub behind : ℕ → List Receipt → List (ℕ × Receipt)
behind before [] = []
behind before (r ∷ rs) = (before, r) ∷ behind r.place rs

-- a receipt is right where its place is above the one before it, and it is the journal's entry at its place
abbrev pub IsRight : List (Step × Reply) → ℕ × Receipt → Type 0
IsRight journal x = (x.0 < x.1.place) × (entry_at journal x.1.place ≡ Some (x.1.step, x.1.reply))

-- how many receipts of the group are at the place, in all passes
abbrev pub receipts_at : ℕ → ℕ → List PassView → ℕ
receipts_at group place passes =
    sum_by (λ p. if p.group.0 == group then count_by (λ r. r.place == place) p.receipts else 0) passes

-- agreement

-- a pass agrees with a report where its places rise, each receipt equals the entry of its group's journal at its
-- place, and its marks are true
pub record PassAgrees (report : AuditReport) (p : PassView) : Type 0 where
  pub receipts : AllByRecursion (IsRight (journal_of report p.group.0)) (behind 0 p.receipts)
  pub marks : AreTrue report p.group.0 p.marks

-- passes agree with a report where each does, and each entry of each journal has exactly one receipt over all passes
pub record PassesAgree (report : AuditReport) (passes : List PassView) : Type 0 where
  pub each : AllByRecursion (PassAgrees report) passes
  pub once : (group place : ℕ) → 0 < place → place ≤ length (journal_of report group) → receipts_at group place passes ≡ 1

-- agreement place by place: marks are looked at behind the journal's last place

-- P holds of some element
abbrev pub SomeByRecursion : {X : Type 0} → (X → Type 0) → List X → Type 0
SomeByRecursion P [] = ⊥
SomeByRecursion P (x ∷ xs) = P x ⊎ SomeByRecursion P xs

-- all that a pass says at the place is right
abbrev pub IsRightAt : AuditReport → PassView → ℕ → Type 0
IsRightAt report p place =
    AllByRecursion (λ x. x.1.place ≡ place → IsRight (journal_of report p.group.0) x) (behind 0 p.receipts)
    × (length (journal_of report p.group.0) + 1 ≡ place → AreTrue report p.group.0 p.marks)

-- something that a pass says at the place is wrong
abbrev pub IsWrongAt : AuditReport → PassView → ℕ → Type 0
IsWrongAt report p place =
    SomeByRecursion (λ x. (x.1.place ≡ place) × (IsRight (journal_of report p.group.0) x → ⊥)) (behind 0 p.receipts)
    ⊎ ((length (journal_of report p.group.0) + 1 ≡ place) × (AreTrue report p.group.0 p.marks → ⊥))

-- all passes of the group are right at the place
abbrev pub AreRightAt : AuditReport → List PassView → ℕ → ℕ → Type 0
AreRightAt report passes group place = AllByRecursion (λ p. p.group.0 ≡ group → IsRightAt report p place) passes

-- some pass of the group is wrong at the place
abbrev pub AreWrongAt : AuditReport → List PassView → ℕ → ℕ → Type 0
AreWrongAt report passes group place = SomeByRecursion (λ p. (p.group.0 ≡ group) × IsWrongAt report p place) passes

-- the passes and the report agree at the place of the group
pub record AgreesAt (report : AuditReport) (passes : List PassView) (group place : ℕ) : Type 0 where
  pub right : AreRightAt report passes group place
  pub once : 0 < place → place ≤ length (journal_of report group) → receipts_at group place passes ≡ 1

-- the first place of the first group is before the second: groups go by their numbers
abbrev pub IsBefore : ℕ → ℕ → ℕ → ℕ → Type 0
IsBefore group place group' place' = (group < group') ⊎ ((group ≡ group') × (place < place'))

-- the group and the place of a difference
abbrev pub group_of : Difference → GroupId
group_of (PassMissing group place) = group
group_of (Mismatch group place) = group

abbrev pub place_of : Difference → ℕ
place_of (PassMissing group place) = place
place_of (Mismatch group place) = place

-- what a difference says is so: the entry has no receipt; or something is wrong there, or the entry has two receipts
abbrev pub IsSo : AuditReport → List PassView → Difference → Type 0
IsSo report passes (PassMissing group place) =
    (0 < place) × (place ≤ length (journal_of report group.0)) × (receipts_at group.0 place passes ≡ 0)
IsSo report passes (Mismatch group place) =
    AreWrongAt report passes group.0 place
    ⊎ ((0 < place) × (place ≤ length (journal_of report group.0)) × (2 ≤ receipts_at group.0 place passes))

-- what the difference says is so, and passes and report agree at every place before it
pub record IsFirstDifference (report : AuditReport) (passes : List PassView) (d : Difference) : Type 0 where
  pub so : IsSo report passes d
  pub before : (group place : ℕ) → IsBefore group place (group_of d).0 (place_of d) → AgreesAt report passes group place
