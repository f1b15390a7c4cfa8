-- What the threads of callers give back.
use Rattle.std.specs.Prelude.{◌≡◌, ℕ, ◌∷◌, [], ◌++◌, Bool, List, Result, Some, if◌then◌else◌, slice_get}
use Rattle.std.specs.List.{AllZip}
use Rattle.std.specs.declared.thread.PromisedHandle.{PromisedHandle}
use Rattle.bh_base.specs.declared.step.GroupId.{GroupId}
use Rattle.bh_base.specs.declared.step.FallbackEnd.{FallbackEnd}
use Rattle.bh_base.specs.declared.step.Request.{Request}
use Rattle.bh_base.specs.declared.step.RunEnd.{RunEnd}
use Rattle.bh_base.specs.declared.reply.Answer.{Answer}
use Rattle.bh_base.specs.declared.reply.CallError.{CallError}
use Rattle.bh_base.specs.declared.reply.Cause.{Cause}
use Rattle.bh_journal.specs.Passes.{PassView, blank}
use Rattle.bh_workers.specs.declared.caller_threads.Called.{Called}
use Rattle.bh_workers.specs.declared.caller_threads.CallerOf.{CallerOf}
use Rattle.bh_workers.specs.declared.driving.RequestList.{RequestList}
use Rattle.bh_workers.specs.Calls.{CallAdds, IsCall}
use Rattle.bh_workers.specs.Driving.{HasRoomFor, IsCaller, NoneIsFull}

module _ (ends : GroupId → ℕ → List ℕ → RunEnd → Type 0) (fallback_ends : GroupId → ℕ → Cause → List ℕ → FallbackEnd → Type 0) (moments : ℕ → Type 0) where
  -- a call was made, and its answer added to the others
  abbrev pub MakesCall : Bool → PassView → List (Result Answer CallError) → Request → PassView → List (Result Answer CallError) → Type 0
  MakesCall audited p answers request p' answers' =
      (answer : Result Answer CallError) × (answers' ≡ answers ++ answer ∷ []) × CallAdds audited p answer p' (IsCall ends fallback_ends moments p.group request answer)

  -- the answers and the pass are those of a caller, whose pass had so much room
  pub record CalledAs (audited : Bool) (g : GroupId) (room : ℕ) (requests : List Request) (r : Called) : Type 0 where
    pub caller : IsCaller ends fallback_ends moments audited g requests r.answers.items r.pass
    pub unrefused : HasRoomFor audited room requests → NoneIsFull r.answers.items

-- the pass of a caller of the list, where so much room was asked for: it has room in an audited service alone
abbrev pub first_pass : Bool → ℕ → RequestList → PassView
first_pass audited room l = blank l.group (if audited then room else 0)

-- the pass is an empty one of the list's group
abbrev pub IsPassOf : RequestList → PassView → Type 0
IsPassOf l pass = (pass.group ≡ l.group) × (pass.receipts ≡ [])

-- each list has such a pass, in their order
abbrev pub ArePassesOf : List RequestList → List PassView → Type 0
ArePassesOf lists passes = AllZip IsPassOf lists passes

-- the promise is of the list, with the room of the pass
pub record IsCallerOf {D C : Type 0} (audited : Bool) (l : RequestList) (pass : PassView) (p : CallerOf D C) : Type 0 where
  pub kind : p.audited ≡ audited
  pub group : p.group ≡ l.group
  pub room : p.room ≡ pass.room
  pub requests : p.requests.now ≡ l.requests.items

-- the handles are of callers of the lists with these passes, in their order
abbrev pub AllCallers : {D C : Type 0} → Bool → List RequestList → List PassView → List (PromisedHandle Called (CallerOf D C)) → Type 0
AllCallers {D} {C} audited lists passes handles =
    (k : ℕ) (l : RequestList) (pass : PassView) (h : PromisedHandle Called (CallerOf D C)) → slice_get lists k ≡ Some l → slice_get passes k ≡ Some pass → slice_get handles k ≡ Some h → IsCallerOf audited l pass h.promise
