-- What is done in one turn of the lock, by what was asked for.
use Rattle.std.specs.Prelude.{◌≡◌, ◌↔◌, ℕ, ◌+◌, ◌<◌, ◌≤◌, ◌^◌, Bool, true, false, [], ◌∷◌, ◌++◌, length, is_some, Result, Err, IfOk, OnOk, OnErr, Option, Some, None, if◌then◌else◌}
use Rattle.std.specs.List.{position_from}
use Rattle.bh_base.specs.Props.{GroupProps}
use Rattle.bh_base.specs.declared.reply.Reply.{Reply}
use Rattle.bh_base.specs.declared.reply.Reply.TheVariants as replies
use Rattle.bh_base.specs.declared.step.GroupId.{GroupId}
use Rattle.bh_base.specs.declared.step.Op.TheVariants as op
use Rattle.bh_base.specs.declared.step.Step.{Step}
use Rattle.bh_base.specs.Ranges.{IsInRange}
use Rattle.bh_base.specs.Replies.{is_refusal}
use Rattle.bh_base.specs.Runs.{View}
use Rattle.bh_base.specs.Seen.{view_reply}
use Rattle.bh_core.specs.declared.service.RegisterError.{RegisterError}
use Rattle.bh_core.specs.declared.service.RegisterError.TheVariants as register
use Rattle.bh_core.specs.declared.service.RetireError.{RetireError}
use Rattle.bh_core.specs.declared.service.RetireError.TheVariants as retire
use Rattle.bh_core.specs.Acts.{with_opened}
use Rattle.bh_core.specs.CoreView.{most_groups, slots_in, view_at, with_retired}
use Rattle.bh_core.specs.Looks.{is_assigned, is_in_use, is_pending, is_worn_out}
use Rattle.bh_core.specs.Step.{IsStep}
use Rattle.bh_in_force.specs.declared.properties.InForce.{InForce}
use Rattle.bh_in_force.specs.Properties.{in_force_found}
use Rattle.bh_journal.specs.Passes.{Adds, PassView, added, marked_stopped, receipt_of}
use Rattle.bh_journal.specs.Replay.{empty_journal}
use Rattle.bh_audit.specs.Books.{BookView, IsWritten}
use Rattle.bh_audit.specs.Calls.{AddsCollect, AddsNext, is_due, step_at, workers_of}
use Rattle.bh_audit.specs.Waking.{IsEverybody, KeepsWakeUps}
use Rattle.bh_audit.specs.declared.asks.Ask.{Ask}
use Rattle.bh_audit.specs.declared.asks.Ask.TheVariants as ask
use Rattle.bh_audit.specs.declared.asks.Said.{Said}
use Rattle.bh_audit.specs.declared.asks.Said.TheVariants as said
use Rattle.bh_audit.specs.declared.freed.Freed.{Freed}
use Rattle.bh_audit.specs.declared.next.Next.{Next}
use Rattle.bh_audit.specs.declared.next.Next.TheVariants as next
use Rattle.bh_audit.specs.declared.next.Progress.{Progress}
use Rattle.bh_audit.specs.declared.next.Progress.TheVariants as progress

-- what a turn of the lock may change: the book, the stop mark, and the pass of whoever asks
pub record Held : Type 0 where
  pub book : BookView
  pub stopped : Bool
  pub pass : PassView

abbrev pub held : BookView → Bool → PassView → Held
held book stopped pass = record { book = book; stopped = stopped; pass = pass }

-- nothing was changed
pub record IsUnchanged (old new : Held) : Type 0 where
  pub book : new.book ≡ old.book
  pub stopped : new.stopped ≡ old.stopped
  pub pass : new.pass ≡ old.pass

-- one step was made and no other: the groups go as in the core, in an audited book the step is in its group's journal, and
-- its receipt or its mark in the pass
pub record IsMade (audited : Bool) (step : Step) (reply : Reply) (old new : Held) (freed : Freed) : Type 0 where
  pub groups : IsStep old.book.groups step reply new.book.groups
  pub refused : is_refusal reply ≡ true → new.book ≡ old.book
  pub written : audited ≡ true → is_refusal reply ≡ false → IsWritten old.book.journals step.group.0 step reply new.book.journals
  pub unwritten : audited ≡ false → new.book.journals ≡ old.book.journals
  pub adds : Adds audited old.pass step reply new.pass
  pub place : audited ≡ true → is_refusal reply ≡ false → (v : View) × (view_at new.book.groups step.group.0 ≡ Some v) × (new.pass ≡ added old.pass (receipt_of v.present.steps step reply))
  pub stopped : new.stopped ≡ old.stopped
  pub told : KeepsWakeUps old.book.groups step.group step.op new.book.groups freed

-- a worker has to wait: the service goes on, the group is there and not worn, and a Start would not be answered with a run
pub record WorkerWaits (h : Held) : Type 0 where
  pub goes_on : h.stopped ≡ false
  pub there : is_some (view_at h.book.groups h.pass.group.0) ≡ true
  pub idle : (v : View) (moment : ℕ) → view_at h.book.groups h.pass.group.0 ≡ Some v → is_assigned (view_reply v op.Start moment) ≡ false
  pub fresh : (v : View) (moment : ℕ) → view_at h.book.groups h.pass.group.0 ≡ Some v → is_worn_out (view_reply v op.Start moment) ≡ false

-- a caller has to wait: the service goes on, the group is there, and a Collect of the serial would be answered Pending
pub record CallerWaits (serial : ℕ) (h : Held) : Type 0 where
  pub goes_on : h.stopped ≡ false
  pub there : is_some (view_at h.book.groups h.pass.group.0) ≡ true
  pub pending : (v : View) (moment : ℕ) → view_at h.book.groups h.pass.group.0 ≡ Some v → is_pending (view_reply v (op.Collect serial) moment) ≡ true

-- whoever asks has to wait: nobody else ever does
abbrev pub HasToWait : Ask → Held → Type 0
HasToWait ask.Next h = WorkerWaits h
HasToWait (ask.Collect serial) h = CallerWaits serial h
HasToWait _ h = ⊥

-- what the reply to a Start tells a worker: a run or a refusal
abbrev pub next_of : Reply → Option Next
next_of (replies.Assigned serial command arg) = Some (next.Assigned serial command arg)
next_of replies.Worn = Some next.Worn
next_of replies.NoGroup = Some next.NoGroup
next_of _ = None

-- a Start of the pass's group was made, at a moment that is named
pub record IsStarted (moments : ℕ → Type 0) (audited : Bool) (reply : Reply) (old new : Held) (freed : Freed) : Type 0 where
  pub now : ℕ
  pub named : moments now
  pub made : IsMade audited (step_at old.pass.group now op.Start) reply old new freed
  pub adds : (n : Next) × (next_of reply ≡ Some n) × AddsNext moments audited old.pass n new.pass

-- a worker of a group that is there is told that the service was stopped: only the pass has changed, by that mark
pub record IsToldToStop (old new : Held) : Type 0 where
  pub was_stopped : old.stopped ≡ true
  pub there : is_some (view_at old.book.groups old.pass.group.0) ≡ true
  pub book : new.book ≡ old.book
  pub stopped : new.stopped ≡ old.stopped
  pub pass : new.pass ≡ marked_stopped old.pass

-- a Collect of the serial was made, at a moment that is named; where it is Pending, the service was stopped, and the pass is
-- marked so
pub record IsCollected (moments : ℕ → Type 0) (audited : Bool) (serial : ℕ) (reply : Reply) (old new : Held) (freed : Freed) : Type 0 where
  pub now : ℕ
  pub between : PassView
  pub named : moments now
  pub made : IsMade audited (step_at old.pass.group now (op.Collect serial)) reply old (record new { pass = between }) freed
  pub was_stopped : reply ≡ replies.Pending → old.stopped ≡ true
  pub adds : AddsCollect moments audited old.pass serial reply new.pass

-- a step was made that was not refused, and nobody came between it and a Collect of the serial, which met what it left
pub record IsMadeAndCollected (moments : ℕ → Type 0) (audited : Bool) (step : Step) (serial : ℕ) (reply : Reply) (old new : Held) (freed : Freed) : Type 0 where
  pub first : Reply
  pub between : Held
  pub made : IsMade audited step first old between freed
  pub taken : is_refusal first ≡ false
  pub collected : IsCollected moments audited serial reply between new freed

-- one step was made, and a Collect of the serial behind it exactly where the step was not refused and the Collect had not
-- to wait
abbrev pub IsProgress : (ℕ → Type 0) → Bool → Step → ℕ → Progress → Reply → Held → Held → Freed → Type 0
IsProgress moments audited step serial progress.Refused r old new freed = IsMade audited step r old new freed × (is_refusal r ≡ true)
IsProgress moments audited step serial progress.Stepped r old new freed = IsMade audited step r old new freed × (is_refusal r ≡ false) × CallerWaits serial new
IsProgress moments audited step serial progress.Collected r old new freed = IsMadeAndCollected moments audited step serial r old new freed

-- an Expire of the pass's group was made, at a moment that is named, and so many tickets timed out; or nothing was done, and
-- at a moment that is named none was due
abbrev pub IsExpired : (ℕ → Type 0) → Bool → Option ℕ → Held → Held → Freed → Type 0
IsExpired moments audited (Some number) old new freed =
    (0 < number) × ((now : ℕ) × moments now × IsMade audited (step_at old.pass.group now op.Expire) (replies.Expired number) old new freed)
IsExpired moments audited None old new freed =
    IsUnchanged old new × ((now : ℕ) × moments now × (is_due old.book.groups old.pass.group now ≡ false))

-- a group was registered, as the book does; or it was refused, and nothing has changed
pub record IsRegistration (props : GroupProps) (step_limit : ℕ) (answer : Result GroupId RegisterError) (old new : Held) : Type 0 where
  pub number : IfOk answer (λ id. id.0 ≡ length old.book.groups.lives)
  pub added : OnOk answer (new.book.groups ≡ with_opened props step_limit old.book.groups)
  pub many : (answer ≡ Err register.TooManyGroups) ↔ (most_groups ≤ length old.book.groups.lives)
  pub room : (answer ≡ Err register.TooManySlots) ↔ ((length old.book.groups.lives < most_groups) × (old.book.groups.slot_limit < slots_in old.book.groups.lives + props.slots))
  pub journals : OnOk answer (new.book.journals ≡ (if old.book.audited then old.book.journals ++ empty_journal props step_limit ∷ [] else old.book.journals))
  pub stopped : new.stopped ≡ old.stopped
  pub pass : new.pass ≡ old.pass
  pub err : OnErr answer (new.book ≡ old.book)

-- a group was retired, as the book does, and whoever waits in it is told; or it was refused, and nothing has changed
pub record IsRetirement (group : GroupId) (answer : Result (Unit {0}) RetireError) (old new : Held) (freed : Freed) : Type 0 where
  pub ended : OnOk answer ((v : View) × (view_at old.book.groups group.0 ≡ Some v) × (new.book.groups ≡ with_retired group.0 v old.book.groups))
  pub everybody : OnOk answer (IsEverybody freed)
  pub no_group : (answer ≡ Err retire.NoGroup) ↔ (view_at old.book.groups group.0 ≡ None)
  pub busy : (v : View) → view_at old.book.groups group.0 ≡ Some v → ((answer ≡ Err retire.Busy) ↔ (is_in_use v ≡ true))
  pub journals : new.book.journals ≡ old.book.journals
  pub stopped : new.stopped ≡ old.stopped
  pub pass : new.pass ≡ old.pass
  pub err : OnErr answer (new.book ≡ old.book)

-- the stop mark was set, and everybody is told
pub record IsStop (old new : Held) (freed : Freed) : Type 0 where
  pub stopped : new.stopped ≡ true
  pub everybody : IsEverybody freed
  pub book : new.book ≡ old.book
  pub pass : new.pass ≡ old.pass

-- so many workers are wanted in the group
pub record Wants (group : GroupId) (number : ℕ) (h : Held) : Type 0 where
  pub known : (v : View) → view_at h.book.groups group.0 ≡ Some v → number ≡ workers_of v.present.props
  pub unknown : view_at h.book.groups group.0 ≡ None → number ≡ 0

-- this is in force of the command of the number in the group, as far as the one has the other
pub record Finds (group : GroupId) (command : ℕ) (found : Option InForce) (h : Held) : Type 0 where
  pub known : (v : View) → view_at h.book.groups group.0 ≡ Some v → found ≡ in_force_found command v.present.props
  pub unknown : view_at h.book.groups group.0 ≡ None → found ≡ None

-- what a turn of the lock does where it does not wait, by what was asked for and what was said: that and no more
abbrev pub Does : (ℕ → Type 0) → Bool → Ask → Held → Held → Reply → Said → Freed → Type 0
Does moments audited (ask.Step step) old new r said.Done freed = IsMade audited step.now r old new freed
Does moments audited (ask.StepAndCollect step serial) old new r (said.Progress progress) freed = IsProgress moments audited step.now serial progress r old new freed
Does moments audited ask.Next old new r said.Done freed = IsStarted moments audited r old new freed
Does moments audited ask.Next old new r said.Stopped freed = IsToldToStop old new
Does moments audited (ask.Collect serial) old new r said.Done freed = IsCollected moments audited serial r old new freed
Does moments audited ask.Expire old new r (said.Expired number) freed = IsExpired moments audited number old new freed
Does moments audited (ask.FirstDue passes) old new r (said.Due place) freed =
    IsUnchanged old new × ((now : ℕ) × moments now × (place ≡ position_from (λ (p : PassView). is_due old.book.groups p.group now) 0 passes.now))
Does moments audited ask.Stop old new r said.Done freed = IsStop old new freed
Does moments audited ask.IsStopped old new r (said.Is it) freed = IsUnchanged old new × (it ≡ old.stopped)
Does moments audited (ask.Register alloc props step_limit) old new r (said.Registered answer) freed = IsRegistration props.now step_limit answer old new
Does moments audited (ask.Retire group) old new r (said.Retired answer) freed = IsRetirement group answer old new freed
Does moments audited (ask.IsRegistered group) old new r (said.Is it) freed = IsUnchanged old new × (it ≡ is_some (view_at old.book.groups group.0))
Does moments audited ask.Groups old new r (said.Count number) freed = IsUnchanged old new × (number ≡ length old.book.groups.lives)
Does moments audited (ask.Workers group) old new r (said.Count number) freed = IsUnchanged old new × Wants group number old
Does moments audited (ask.InForce group command) old new r (said.InForce found) freed = IsUnchanged old new × Finds group command found old
Does moments audited _ old new r _ freed = ⊥

-- the most steps that what was asked for makes, so an audited service wants as many free receipts
abbrev pub most_steps : Ask → ℕ
most_steps (ask.Step step) = 1
most_steps (ask.StepAndCollect step serial) = 2
most_steps ask.Next = 1
most_steps (ask.Collect serial) = 1
most_steps ask.Expire = 1
most_steps _ = 0

-- a group that is to be registered has properties in their ranges, and may do 1 to 2^40 steps
abbrev pub IsAllowed : Ask → Type 0
IsAllowed (ask.Register alloc props step_limit) = IsInRange props.now × (1 ≤ step_limit) × (step_limit ≤ 2 ^ 40)
IsAllowed _ = Unit {0}

-- the same of some book and mark, where the moment of the turn has no name
abbrev pub Did : (ℕ → Type 0) → Bool → Ask → PassView → PassView → Reply → Said → Freed → Type 0
Did moments audited a p p' r s freed =
    (before : BookView) × (was : Bool) × (after : BookView) × (is : Bool) × Does moments audited a (held before was p) (held after is p') r s freed
