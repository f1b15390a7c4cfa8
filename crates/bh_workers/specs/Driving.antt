-- What comes back from a drive.
use Rattle.std.specs.Prelude.{◌≡◌, ◌≢◌, ℕ, ◌*◌, ◌≤◌, Bool, true, List, [], ◌∷◌, ◌++◌, ◌⊎◌, Result, Err, Vec, IfOk, length, map, vec_items}
use Rattle.std.specs.List.{AllByRecursion}
use Rattle.bh_base.specs.declared.step.GroupId.{GroupId}
use Rattle.bh_base.specs.declared.step.FallbackEnd.{FallbackEnd}
use Rattle.bh_base.specs.declared.step.Request.{Request}
use Rattle.bh_base.specs.declared.step.RunEnd.{RunEnd}
use Rattle.bh_base.specs.declared.reply.Answer.{Answer}
use Rattle.bh_base.specs.declared.reply.CallError.{CallError}
use Rattle.bh_base.specs.declared.reply.CallError.TheVariants as error
use Rattle.bh_base.specs.declared.reply.Cause.{Cause}
use Rattle.bh_journal.specs.declared.pass.Marks.{Marks}
use Rattle.bh_journal.specs.declared.pass.Receipt.{Receipt}
use Rattle.bh_journal.specs.Passes.{PassView}
use Rattle.bh_workers.specs.declared.driving.DriveError.{DriveError}
use Rattle.bh_workers.specs.declared.driving.DriveError.TheVariants as drive_error
use Rattle.bh_workers.specs.declared.driving.Driven.{Driven}
use Rattle.bh_workers.specs.declared.driving.RequestList.{RequestList}
use Rattle.bh_workers.specs.declared.threads.ThreadError.{ThreadError}
use Rattle.bh_workers.specs.declared.threads.ThreadError.TheVariants as thread_error
use Rattle.bh_workers.specs.Calls.{EndsInFallback, IsCall}
use Rattle.bh_workers.specs.Timing.{AreExpiries}
use Rattle.bh_workers.specs.Work.{IsWork}

-- what a drive answers where its threads give nothing back
abbrev pub told_as : ThreadError → DriveError
told_as thread_error.Memory = drive_error.Memory
told_as thread_error.Spawn = drive_error.Spawn

-- a pass of so much room has room for a call of each request: in an audited service five receipts for each
abbrev pub HasRoomFor : Bool → ℕ → List Request → Type 0
HasRoomFor audited room requests = audited ≡ true → 5 * length requests ≤ room

-- no call was refused for want of room
abbrev pub NoneIsFull : List (Result Answer CallError) → Type 0
NoneIsFull answers = AllByRecursion (λ answer. answer ≢ Err error.PassFull) answers

-- of no list for whose requests there is room was a call refused for want of it
abbrev pub FindRoom : Bool → ℕ → List RequestList → List (List (Result Answer CallError)) → Type 0
FindRoom audited room [] [] = Unit {0}
FindRoom audited room (l ∷ lists) (answers ∷ others) =
    (HasRoomFor audited room l.requests.items → NoneIsFull answers) × FindRoom audited room lists others
FindRoom audited room lists answers = ⊥

-- the pass of a worker has nothing but its work
abbrev pub IsWorkerPass : (GroupId → ℕ → List ℕ → RunEnd → Type 0) → (ℕ → Type 0) → PassView → Type 0
IsWorkerPass ends moments p = IsWork ends moments p.group p.receipts

-- the passes that a worker gave back have nothing but its work
abbrev pub IsWorked : {Z E : Type 0} → (GroupId → ℕ → List ℕ → RunEnd → Type 0) → (ℕ → Type 0) → Result (Vec PassView Z) E → Type 0
IsWorked ends moments worked = IfOk worked (λ passes. AllByRecursion (IsWorkerPass ends moments) passes.items)

-- a pass of the timer has nothing but Expires
abbrev pub IsTimerPass : (ℕ → Type 0) → PassView → Type 0
IsTimerPass moments p = AreExpiries moments p.group p.receipts

-- the marks of the pass tell why a call ended without an answer
abbrev pub IsMarked : Marks → Result Answer CallError → List Receipt → Type 0
IsMarked marks (Err error.Worn) part = marks.worn ≡ true
IsMarked marks (Err error.NoGroup) part = marks.no_group ≡ true
IsMarked marks (Err error.Stopped) part = (marks.stopped ≡ true) ⊎ EndsInFallback part
IsMarked marks result part = Unit {0}

module _ (ends : GroupId → ℕ → List ℕ → RunEnd → Type 0) (fallback_ends : GroupId → ℕ → Cause → List ℕ → FallbackEnd → Type 0) (moments : ℕ → Type 0) where
  -- the receipts are cut into as many parts as there are requests, in their order, each as a call of the request adds
  -- it for its answer
  abbrev pub AreCalls : GroupId → Marks → List Request → List (Result Answer CallError) → List Receipt → Type 0
  AreCalls g marks [] [] made = made ≡ []
  AreCalls g marks (request ∷ requests) (answer ∷ answers) made =
      (part : List Receipt) × (rest : List Receipt) × (made ≡ part ++ rest) × IsCall ends fallback_ends moments g request answer part × IsMarked marks answer part
      × AreCalls g marks requests answers rest
  AreCalls g marks requests answers made = ⊥

  -- each request has an answer, and in an audited service the pass has the receipts of all calls
  pub record IsCaller (audited : Bool) (g : GroupId) (requests : List Request) (answers : List (Result Answer CallError)) (p : PassView) : Type 0 where
    pub group : p.group ≡ g
    pub count : length answers ≡ length requests
    pub calls : audited ≡ true → AreCalls g p.marks requests answers p.receipts

  -- the answers and the passes of the callers, in the order of the lists
  abbrev pub AreCallers : Bool → List RequestList → List (List (Result Answer CallError)) → List PassView → Type 0
  AreCallers audited [] [] [] = Unit {0}
  AreCallers audited (l ∷ lists) (answers ∷ others) (p ∷ passes) =
      IsCaller audited l.group l.requests.items answers p × AreCallers audited lists others passes
  AreCallers audited lists answers passes = ⊥

  -- the passes of the callers stand first, then those of the workers, then those of the timer
  pub record IsDriven (audited : Bool) (lists : List RequestList) (d : Driven) : Type 0 where
    pub callers : List PassView
    pub workers : List PassView
    pub timer : List PassView
    pub passes : d.passes.items ≡ callers ++ (workers ++ timer)
    pub called : AreCallers audited lists (map vec_items d.answers.items) callers
    pub worked : AllByRecursion (IsWorkerPass ends moments) workers
    pub timed : AllByRecursion (IsTimerPass moments) timer
